use Rattle.summary.specs.Row.{Told}
use Rattle.summary.proofs.ending.tell.Given as goal

abbrev pub invariant-loop-k : goal.invariant-loop-k
invariant-loop-k l =
    Told l.edge l.start (λ x. l.sum) l.u l.k l.initial.sums l.sums
