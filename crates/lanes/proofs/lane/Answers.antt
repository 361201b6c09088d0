use Prim.Native.Nat.{◌≤◌, ◌<◌}
use native.Mathlib.Omega.{arith}
use lib.ListN.{get_or}
use Rattle.recorded.proofs.Records.{fine-at}
use Rattle.lanes.proofs.Passing.{lane-new, lane-old}
use Rattle.lanes.proofs.lane.Goals as goal
use Rattle.lanes.proofs.lane.Goals.{After-byte-v}

-- the vertex of the record is one of the graph, its kind is known, and that has few cores
vertex : (b : After-byte-v) → b.byte-v.result < 128
vertex b = omega (arith, (fine-at b.requires.k_bound.1.in_form b.args.k b.requires.k_bound.0).vertex, b.byte-v.ensures.0, b.requires.k_bound.1.few)

kind-in : (b : After-byte-v) → get_or b.args.kind.now b.byte-v.result 0 < 10
kind-in b = rw b.byte-v.ensures.0 (b.requires.k_bound.1.known _ (fine-at b.requires.k_bound.1.in_form b.args.k b.requires.k_bound.0).vertex)

few_cores : (b : After-byte-v) → get_or b.args.cores.now (get_or b.args.kind.now b.byte-v.result 0) 0 ≤ 16
few_cores b = rw b.byte-v.ensures.0 (b.requires.k_bound.1.few_cores _ (fine-at b.requires.k_bound.1.in_form b.args.k b.requires.k_bound.0).vertex)

pub test-requires : goal.test-requires
test-requires c = vertex (goal.at.test-requires c).After-byte-v

pub bounds-kind-v : goal.bounds-kind-v
bounds-kind-v c = vertex (goal.at.bounds-kind-v c).After-byte-v

pub overflow_cast-m : goal.overflow_cast-m
overflow_cast-m c = omega (arith, kind-in (goal.at.overflow_cast-m c).After-byte-v)

pub bounds-cores-s : goal.bounds-cores-s
bounds-cores-s c = kind-in (goal.at.bounds-cores-s c).After-byte-v

pub overflow_cast-m-then-starts-test : goal.overflow_cast-m-then-starts-test
overflow_cast-m-then-starts-test c = omega (arith, few_cores (goal.at.overflow_cast-m-then-starts-test c).After-byte-v)

pub lowest_free-requires : goal.lowest_free-requires
lowest_free-requires c = few_cores (goal.at.lowest_free-requires c).After-byte-v

pub returns-then-starts-test : goal.returns-then-starts-test
returns-then-starts-test c = (
  lane-new c.args.n _ c.args.kind.now c.args.cores.now c.args.k c.requires.k_bound.1.few c.args.held c.requires.members.0 _ c.requires.members.1
      (rw (c.starts.ensures, c.test.ensures, c.byte-v.ensures.0) at c.if-starts-test.true) _ c.busy.result
      (rw c.byte-v.ensures.0 at c.busy.ensures) (rw c.byte-v.ensures.0 at c.lowest_free.ensures.0),
  c.lowest_free.ensures.1,
)

pub bounds-core-v : goal.bounds-core-v
bounds-core-v c = vertex (goal.at.bounds-core-v c).After-byte-v

pub returns : goal.returns
returns c =
    rw c.byte-v.ensures.0 (
      lane-old c.args.n _ c.args.kind.now c.args.cores.now c.args.k c.requires.k_bound.1.few c.args.held c.requires.members.0 _ c.requires.members.1
          (fine-at c.requires.k_bound.1.in_form c.args.k c.requires.k_bound.0).vertex
          (rw (c.starts.ensures, c.test.ensures, c.byte-v.ensures.0) at c.if-starts-test.false),
      c.requires.members.1.few _,
    )
