-- The public function's contract leaves one outcome.
use mathlib.Core.Path.{refl, sym, ◌∙◌}
use Rattle.outcome.specs.OneOutcome.{OneOutcome}
use Rattle.graph.specs.contracts.Refusal.whole as whole
use Rattle.graph.proofs.Refusal.whole.Reads as whole-reads

pub whole-one : OneOutcome whole.ended whole-reads.Pre whole-reads.Post
whole-one κs a r r' ws ws' pre p q = (p ∙ sym q, refl)
