-- No public contract of this crate leaves a choice.
use mathlib.Core.Path.{refl}
use Rattle.outcome.specs.OneOutcome.{OneOutcome}
use Rattle.enough.proofs.Unique.{enough-of_unique, fewest-one}
use Rattle.enough.specs.Fewest.{fewest}
use Rattle.enough.specs.contracts.enough as enough
use Rattle.enough.proofs.enough.Reads as enough-reads

pub enough-one : OneOutcome enough.ended enough-reads.Pre enough-reads.Post
enough-one κs a r r' ws ws' pre p q = (fewest-one r r' (enough-of_unique (fewest r) (fewest r') p q), refl)
