use Prim.Native.Nat.{◌+◌, ◌<◌}
use native.Mathlib.Omega.{arith}
use lib.ListN.{get_or}
use Rattle.paths.specs.Ahead.{weigh}
use Rattle.paths.specs.Trace.{by_edge, at_end}
use Rattle.paths.proofs.Tracing.{unkept_more}
use Rattle.paths.proofs.trace.onward.Goals as goal
use Rattle.paths.proofs.trace.onward.Goals.{After-to-v}

pub loop-i-init : goal.loop-i-init
loop-i-init c = λ j a b k. absurd (omega arith)

-- the edge goes to a vertex, whose sum fits
vertex : (c : After-to-v) → c.to-v.result < 128
vertex c =
    let l = c.loop-i in
    omega (arith, c.to-v.ensures, c.requires.ends l.i (omega arith) (omega arith))

fits : (c : After-to-v)
    → weigh c.args.weight.now c.to-v.result + get_or c.args.sums.now c.to-v.result 0 < 18446744073709551616
fits c =
    let l = c.loop-i in
    rw c.to-v.ensures (c.requires.fits l.i (omega arith) (omega arith))

pub offset_bounds-weight-v : goal.offset_bounds-weight-v
offset_bounds-weight-v c = omega (arith, vertex c)

pub bounds-weight-v : goal.bounds-weight-v
bounds-weight-v c = vertex (goal.at.bounds-weight-v c).After-to-v

pub offset_bounds-sums-v : goal.offset_bounds-sums-v
offset_bounds-sums-v c = omega (arith, vertex (goal.at.offset_bounds-sums-v c).After-to-v)

pub bounds-sums-v : goal.bounds-sums-v
bounds-sums-v c = vertex (goal.at.bounds-sums-v c).After-to-v

pub overflow_add-weight : goal.overflow_add-weight
overflow_add-weight c = omega (arith, fits (goal.at.overflow_add-weight c).After-to-v)

pub returns-then-weight-v : goal.returns-then-weight-v
returns-then-weight-v c =
    let l = c.loop-i in
    by_edge l.i c.to-v.result (omega arith) (omega arith) c.to-v.ensures (rw c.to-v.ensures at c.if-weight-v.true) l.invariant

pub loop-i-preserved : goal.loop-i-preserved
loop-i-preserved c =
    let l = c.loop-i in
    let a = c.args in
    unkept_more a.edge.now a.weight.now a.sums.now a.u _ l.i c.to-v.result c.to-v.ensures c.if-weight-v.false l.invariant

pub returns : goal.returns
returns c = at_end (λ j a b. c.loop-i.invariant j a (omega arith))
