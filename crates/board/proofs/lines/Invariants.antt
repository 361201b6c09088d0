use Rattle.std.proofs.Common.{◌-◌, length}
use Rattle.board.proofs.Passing.{Reading}
use Rattle.board.proofs.lines.Given as goal

abbrev pub invariant-loop-at : goal.invariant-loop-at
invariant-loop-at l = Reading l.t l.at l.names

abbrev pub decreases-loop-at : goal.decreases-loop-at
decreases-loop-at l = length l.t - l.at
