use Prim.Native.Nat.{suc}
use Rattle.stg.specs.Lines.{Reached, Kept}
use Rattle.stg.proofs.lines.tasks_at.Given as goal

abbrev pub invariant-loop-v : goal.invariant-loop-v
invariant-loop-v l = Reached l.text (suc l.v) l.i × Kept l.text l.v l.wcets l.after
