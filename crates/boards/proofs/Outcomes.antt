-- No public contract of this crate leaves a choice.
use mathlib.Core.Path.{refl, sym, ◌∙◌}
use Rattle.outcome.specs.OneOutcome.{OneOutcome}
use Rattle.boards.specs.contracts.worse as worse
use Rattle.boards.proofs.worse.Reads as worse-reads

pub worse-one : OneOutcome worse.ended worse-reads.Pre worse-reads.Post
worse-one κs a r r' ws ws' pre p q = (p ∙ sym q, refl)
