-- The contract of the public function leaves one outcome: the list.
use mathlib.Core.Path.{refl, sym, ◌∙◌}
use Rattle.outcome.specs.OneOutcome.{OneOutcome}
use Rattle.lanes.specs.contracts.name as name
use Rattle.lanes.proofs.name.Reads as name-reads

pub name-one : OneOutcome name.ended name-reads.Pre name-reads.Post
name-one κs a r r' ws ws' pre p q = (refl, λ i. (tt, (tt, (tt, (tt, ((p ∙ sym q) i, tt))))))
