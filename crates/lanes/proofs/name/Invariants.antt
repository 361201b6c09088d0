use mathlib.Core.Path.{◌≡◌}
use mathlib.Core.List.{◌++◌}
use lib.ListN.{drop}
use Rattle.model.specs.Places.{table}
use Rattle.vset.specs.Members.{Members}
use Rattle.lanes.specs.Lanes.{has_core}
use Rattle.lanes.specs.Passing.{listed, Got}
use Rattle.lanes.proofs.Passing.{lane_at}
use Rattle.lanes.proofs.name.Given as goal

abbrev pub invariant-loop-k : goal.invariant-loop-k
invariant-loop-k l =
    (l.out ≡ table (lane_at l.n l.log (listed l.kind) (listed l.cores)) l.k ++ drop l.k l.initial.out) × Got l.n l.log l.kind l.cores l.k l.core × Members l.held (has_core l.log l.k)
