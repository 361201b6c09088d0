use Rattle.cycle.specs.Line.{Told}
use Rattle.cycle.proofs.tell.Given as goal

abbrev pub invariant-loop-i : goal.invariant-loop-i
invariant-loop-i l = Told l.edge l.start l.i l.initial.waiting l.initial.order l.found l.waiting l.order l.all
