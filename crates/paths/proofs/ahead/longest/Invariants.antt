use Rattle.paths.proofs.Sums.{Done}
use Rattle.paths.proofs.ahead.longest.Given as goal

abbrev pub invariant-loop-j : goal.invariant-loop-j
invariant-loop-j l = Done l.edge l.start l.order l.n l.weight l.sums.ahead l.j
