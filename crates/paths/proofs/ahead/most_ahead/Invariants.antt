use lib.ListN.{get_or}
use Rattle.paths.specs.Along.{Follows}
use Rattle.paths.proofs.ahead.most_ahead.Given as goal

abbrev pub invariant-loop-i : goal.invariant-loop-i
invariant-loop-i l = Follows l.edge l.weight l.sums (get_or l.start l.u 0) l.i l.most
