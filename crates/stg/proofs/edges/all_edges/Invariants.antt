use Prim.Native.Nat.{ℕ, ◌*◌, ◌≤◌, ◌<◌}
use mathlib.Core.Path.{◌≡◌}
use mathlib.Core.Bool.{Bool}
use lib.ListN.{length}
use Rattle.sets.specs.Sets.{row_of}
use Rattle.model.specs.Places.{that}
use Rattle.stg.specs.After.{From}
use Rattle.stg.specs.Listed.{Listed}
use Rattle.stg.proofs.edges.all_edges.Given as goal

abbrev pub invariant-loop-u : goal.invariant-loop-u
invariant-loop-u l =
    (l.many ≤ 1025) × (length l.list ≡ 1025) × ((p : ℕ → Bool) → ((w : ℕ) → w < l.u → From p w (row_of l.after w)) → Listed (that p (256 * l.u)) l.many l.list)
