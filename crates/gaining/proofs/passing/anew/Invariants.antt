use Rattle.gaining.specs.Passing.{TopFrom}
use Rattle.gaining.proofs.passing.anew.Given as goal

abbrev pub invariant-loop-q : goal.invariant-loop-q
invariant-loop-q l =
    TopFrom l.order l.sums l.q l.from l.top
