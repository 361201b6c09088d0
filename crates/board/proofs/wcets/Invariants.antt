use Rattle.std.proofs.Common.{◌≡◌}
use Rattle.model.specs.Places.{padded}
use Rattle.board.specs.Lists.{wcet_at_of}
use Rattle.board.proofs.wcets.Given as goal

abbrev pub invariant-loop-v : goal.invariant-loop-v
invariant-loop-v l = l.ticks-items ≡ padded 128 (wcet_at_of l.t l.names) l.v
