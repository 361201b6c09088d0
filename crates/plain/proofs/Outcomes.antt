-- No public contract of this crate leaves a choice.
use mathlib.Core.Path.{refl, sym, ◌∙◌}
use Rattle.outcome.specs.OneOutcome.{OneOutcome}
use Rattle.plain.specs.contracts.counts as counts
use Rattle.plain.proofs.counts.Reads as counts-reads
use Rattle.plain.specs.contracts.whole as whole
use Rattle.plain.proofs.whole.Reads as whole-reads

pub counts-one : OneOutcome counts.ended counts-reads.Pre counts-reads.Post
counts-one κs a r r' ws ws' pre p q = (p ∙ sym q, refl)

pub whole-one : OneOutcome whole.ended whole-reads.Pre whole-reads.Post
whole-one κs a r r' ws ws' pre p q = (p ∙ sym q, refl)
