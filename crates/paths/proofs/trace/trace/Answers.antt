use Prim.Native.Nat.{◌<◌}
use native.Mathlib.Omega.{arith}
use Rattle.graph.specs.Model.{as_model}
use Rattle.paths.specs.Ahead.{weigh}
use Rattle.paths.proofs.Tracing.{Tracing, trace_visitable, tracing_none, tracing_room, tracing_more, tracing_done}
use Rattle.paths.proofs.trace.trace.Goals as goal
use Rattle.paths.proofs.trace.trace.Goals.{In-loop-v}

pub loop-v-init : goal.loop-v-init
loop-v-init c g T = tracing_none T

-- the path so far, of the graph that there is
so_far : (c : In-loop-v)
    → Tracing (as_model c.requires.0) (weigh c.args.weight.now) (weigh c.args.sums.now) c.args.head c.args.out.now c.loop-v.out c.loop-v.count c.loop-v.v
so_far c = let p = c.requires in c.loop-v.invariant p.0 p.1

room : (c : In-loop-v) → c.loop-v.count < c.requires.0.n
room c = tracing_room c.requires.1 c.loop-v.out c.loop-v.count c.loop-v.v (so_far c) c.loop-v-test.true

pub bounds-out-count : goal.bounds-out-count
bounds-out-count c = omega (arith, room c, (so_far c).size, c.requires.1.room)

pub overflow_add-count : goal.overflow_add-count
overflow_add-count c = omega (arith, room c, c.requires.1.rows.accepted.few_vertices)

pub onward-v-requires : goal.onward-v-requires
unfolding as_model
onward-v-requires c = trace_visitable c.requires.1 c.loop-v.v ((so_far c).known c.loop-v-test.true)

pub loop-v-smaller : goal.loop-v-smaller
loop-v-smaller c = omega (arith, room (goal.at.loop-v-smaller c).In-loop-v, c.requires.1.rows.accepted.few_vertices)

pub loop-v-preserved : goal.loop-v-preserved
loop-v-preserved c g T =
    let l = c.loop-v in
    tracing_more T l.out l.count l.v (l.invariant g T) c.onward-v.result c.loop-v-test.true c.onward-v.ensures

pub shape_of-out : goal.shape_of-out
shape_of-out c = let p = c.requires in (c.loop-v.invariant p.0 p.1).size

pub returns : goal.returns
returns c g T =
    let l = c.loop-v in
    tracing_done T l.out l.count l.v (l.invariant g T) c.loop-v-test.false
