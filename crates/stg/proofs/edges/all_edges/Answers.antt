use native.Mathlib.Omega.{arith}
use Prim.Native.Nat.{ℕ}
use lib.ListN.{length-replicate}
use Rattle.model.specs.Places.{that}
use Rattle.stg.proofs.Cut.{listed-none}
use Rattle.stg.proofs.edges.all_edges.Goals as goal

pub loop-u-init : goal.loop-u-init
unfolding that
loop-u-init c = let e = c.requires.1 in (omega arith, rw e (length-replicate {A = ℕ} 1025 0), λ p F. rw e listed-none)
