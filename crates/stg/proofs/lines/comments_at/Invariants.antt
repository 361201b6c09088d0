use Prim.Native.Nat.{◌+◌, ◌-◌, ◌≤◌}
use lib.ListN.{length}
use Rattle.stg_text.specs.Layout.{tasks}
use Rattle.stg.specs.Lines.{Reached}
use Rattle.stg.proofs.lines.comments_at.Given as goal

abbrev pub invariant-loop-i : goal.invariant-loop-i
invariant-loop-i l = (tasks l.text + 3 ≤ l.k) × Reached l.text l.k l.i

abbrev pub decreases-loop-i : goal.decreases-loop-i
decreases-loop-i l = length l.text - l.i
