use Rattle.std.proofs.Common.{◌≡◌}
use Rattle.model.specs.Places.{padded}
use Rattle.board.specs.Lists.{cores_at_of}
use Rattle.board.proofs.cores.Given as goal

abbrev pub invariant-loop-k : goal.invariant-loop-k
invariant-loop-k l = l.n-items ≡ padded 10 (cores_at_of l.t l.names) l.k
