use Rattle.std.proofs.Common.{◌≡◌}
use Rattle.model.specs.Places.{padded}
use Rattle.board.specs.Lists.{kind_at}
use Rattle.board.proofs.kinds.Given as goal

abbrev pub invariant-loop-v : goal.invariant-loop-v
invariant-loop-v l = l.k-items ≡ padded 128 (kind_at l.t l.names) l.v
