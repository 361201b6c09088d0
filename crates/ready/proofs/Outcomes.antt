-- No public contract of this crate leaves a choice.
use mathlib.Core.Path.{refl}
use Rattle.outcome.specs.OneOutcome.{OneOutcome}
use Rattle.vset.proofs.Same.{same_set}
use Rattle.ready.specs.contracts.busy as busy
use Rattle.ready.proofs.busy.Reads as busy-reads

pub busy-one : OneOutcome busy.ended busy-reads.Pre busy-reads.Post
busy-one κs a r r' ws ws' pre p q = (same_set r r' _ p q, refl)
