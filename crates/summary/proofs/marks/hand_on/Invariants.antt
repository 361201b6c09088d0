use mathlib.Core.Bool.{true}
use Rattle.summary.specs.Tables.{Marked}
use Rattle.summary.proofs.marks.hand_on.Given as goal

abbrev pub invariant-loop-k : goal.invariant-loop-k
invariant-loop-k l = Marked l.edge l.start true l.u l.k l.initial.marks l.marks
