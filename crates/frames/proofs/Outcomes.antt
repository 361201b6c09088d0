-- No public contract of this crate leaves a choice.
use mathlib.Core.Path.{◌≡◌, refl}
use mathlib.Core.List.{List}
use Prim.Native.Nat.{ℕ}
use Rattle.model.specs.Graph.{Graph}
use Rattle.outcome.specs.OneOutcome.{OneOutcome}
use Rattle.frames.specs.Frames.{FaultsBy}
use Rattle.frames.specs.declared.Faults.{Faults}
use Rattle.frames.proofs.Scan.{first_in_unique}
use Rattle.frames.specs.contracts.first_faults as first-faults
use Rattle.frames.proofs.first_faults.Reads as first-faults-reads

faults_unique : (G : Graph) (l : List ℕ) (k : ℕ) (r r' : Faults) → FaultsBy G l k r → FaultsBy G l k r' → r ≡ r'
faults_unique G l k r r' p q = λ i. record {
  early = first_in_unique _ _ r.early r'.early p.early q.early i;
  crowded = first_in_unique _ _ r.crowded r'.crowded p.crowded q.crowded i;
  idle = first_in_unique _ _ r.idle r'.idle p.idle q.idle i;
}

pub first_faults_one : OneOutcome first-faults.ended first-faults-reads.Pre first-faults-reads.Post
first_faults_one κs a r r' ws ws' pre p q = let g = pre.0 in (faults_unique _ _ _ r r' (p g.0 g.1) (q g.0 g.1), refl)
