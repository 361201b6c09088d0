use mathlib.Core.Path.{◌≡◌}
use mathlib.Core.List.{◌++◌}
use Prim.Native.Nat.{◌+◌, ◌-◌, ◌*◌, ◌≤◌}
use lib.ListN.{drop}
use Rattle.model.specs.Places.{table}
use Rattle.remains.specs.Remains.{place}
use Rattle.recorded.specs.LogOf.{bytes_of}
use Rattle.logs.proofs.lent.hand_over.Given as goal

abbrev pub invariant-loop-k : goal.invariant-loop-k
invariant-loop-k l =
    l.out ≡ bytes_of (table (place l.keys) l.k) ++ drop (8 * l.k) l.initial.out
