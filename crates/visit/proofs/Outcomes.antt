-- The public contract of this crate leaves no choice.
use mathlib.Core.Path.{refl}
use Rattle.model.proofs.Visit.{new_b_2_unique}
use Rattle.outcome.specs.OneOutcome.{OneOutcome}
use Rattle.visit.specs.contracts.largest as largest
use Rattle.visit.proofs.largest.Reads as largest-reads

pub largest-one : OneOutcome largest.ended largest-reads.Pre largest-reads.Post
largest-one κs a r r' ws ws' pre p q =
    (new_b_2_unique r r' (p pre.0 pre.1 pre.2 pre.3 pre.4 pre.5) (q pre.0 pre.1 pre.2 pre.3 pre.4 pre.5), refl)
