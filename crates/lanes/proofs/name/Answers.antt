use mathlib.Core.Path.{◌≡◌}
use Prim.Native.Nat.{◌/◌, ◌<◌}
use native.Mathlib.Omega.{arith}
use lib.ListN.{length}
use Rattle.model.proofs.Written.{written_none}
use Rattle.recorded.proofs.Records.{fine-at}
use Rattle.lanes.specs.Lanes.{lanes_of}
use Rattle.lanes.specs.Passing.{listed}
use Rattle.lanes.proofs.Passing.{has-none, got_none, got_next, lanes_next}
use Rattle.lanes.proofs.name.Goals as goal
use Rattle.lanes.proofs.name.Goals.{After-byte-v}

-- the vertex of the record is one of the graph
vertex : (b : After-byte-v) → b.byte-v.result < 128
vertex b =
    omega (arith, (fine-at b.requires.lists.in_form b.loop-k.k b.loop-k-test.true).vertex, b.byte-v.ensures.0, b.requires.lists.few)

pub loop-k-init : goal.loop-k-init
loop-k-init c = (written_none _ _, got_none _ _ _ _, has-none _ _ c.none-held.ensures)

pub bounds-core-v : goal.bounds-core-v
bounds-core-v c = vertex (goal.at.bounds-core-v c).After-byte-v

pub loop-k-preserved : goal.loop-k-preserved
loop-k-preserved c =
    let v = (fine-at c.requires.lists.in_form c.loop-k.k c.loop-k-test.true).vertex in (
      rw c.loop-k.invariant.0 (lanes_next c.args.n c.args.log.now (listed c.args.kind.now) (listed c.args.cores.now) c.args.out.now c.loop-k.k c.lane-c.result
          (omega (arith, c.loop-k-test.true, c.requires.log_in_bounds)) c.lane-c.ensures.0),
      rw c.byte-v.ensures.0 (got_next c.args.n c.args.log.now c.args.kind.now c.args.cores.now c.loop-k.k c.requires.lists.few c.loop-k.held c.loop-k.invariant.2 c.loop-k.core c.loop-k.invariant.1
          v c.lane-c.result c.lane-c.ensures.0 c.lane-c.ensures.1),
      c.having-held.ensures,
    )

pub returns : goal.returns
unfolding lanes_of
returns c =
    let e : c.loop-k.k ≡ length c.args.log.now / 8 = omega arith in
    rw e at c.loop-k.invariant.0
