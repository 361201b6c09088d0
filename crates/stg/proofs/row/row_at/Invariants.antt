use Prim.Native.Nat.{◌-◌}
use lib.ListN.{length}
use Rattle.stg.proofs.Along.{Along}
use Rattle.stg.proofs.row.row_at.Given as goal

abbrev pub invariant-loop-next : goal.invariant-loop-next
invariant-loop-next l = Along l.text l.at l.n l.i l.row

abbrev pub decreases-loop-next : goal.decreases-loop-next
decreases-loop-next l = length l.text - l.i
