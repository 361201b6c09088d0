-- No public contract of this crate leaves a choice.
use mathlib.Core.Path.{refl}
use Rattle.outcome.specs.OneOutcome.{OneOutcome}
use Rattle.late.proofs.Unique.{lateness-one, late_unique}
use Rattle.late.specs.Lateness.{lateness}
use Rattle.late.specs.contracts.late as late
use Rattle.late.proofs.late.Reads as late-reads

pub late-one : OneOutcome late.ended late-reads.Pre late-reads.Post
late-one κs a r r' ws ws' pre p q = (lateness-one r r' (late_unique _ _ _ (lateness r) (lateness r') p q), refl)
