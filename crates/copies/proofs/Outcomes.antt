-- No public contract of this crate leaves a choice, of what was lent.
use mathlib.Core.Path.{refl, sym, ◌∙◌}
use Rattle.outcome.specs.OneOutcome.{OneOutcome}
use Rattle.copies.specs.contracts.copy as copy
use Rattle.copies.proofs.copy.Reads as copy-reads

pub copy-one : OneOutcome copy.ended copy-reads.Pre copy-reads.Post
copy-one κs a r r' ws ws' pre p q = (refl, λ i. (tt, ((p.1 ∙ sym q.1) i, tt)))
