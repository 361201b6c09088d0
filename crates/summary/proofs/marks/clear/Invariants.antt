use Rattle.summary.specs.Tables.{Cleared}
use Rattle.summary.proofs.marks.clear.Given as goal

abbrev pub invariant-loop-u : goal.invariant-loop-u
invariant-loop-u l =
    Cleared l.marks l.u l.initial.sums l.sums
