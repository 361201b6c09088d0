use mathlib.Core.Path.{◌≡◌}
use Prim.Native.Nat.{◌<◌}
use native.Mathlib.Omega.{arith}
use lib.ListN.{get_or}
use Rattle.gaining.proofs.Tops.{top-none, top-more}
use Rattle.gaining.proofs.passing.anew.Goals as goal
use Rattle.gaining.proofs.passing.anew.Goals.{In-loop-q}

pub loop-q-init : goal.loop-q-init
loop-q-init c = top-none _ _ _ _

-- the vertex at place q
known : (c : In-loop-q) → get_or c.args.order.now c.loop-q.q 0 < 128
known c = c.requires.by_index c.loop-q.q c.loop-q-test.true

pub overflow_cast-x : goal.overflow_cast-x
overflow_cast-x c = omega (arith, known (goal.at.overflow_cast-x c).In-loop-q)

pub offset_bounds-sums-x : goal.offset_bounds-sums-x
offset_bounds-sums-x c = omega (arith, known (goal.at.offset_bounds-sums-x c).In-loop-q)

pub bounds-sums-x : goal.bounds-sums-x
bounds-sums-x c = omega (arith, known (goal.at.bounds-sums-x c).In-loop-q)

pub loop-q-preserved : goal.loop-q-preserved
loop-q-preserved c =
    let l = c.loop-q in
    top-more _ _ l.q _ l.top c.higher-top.result (omega arith) c.higher-top.ensures l.invariant

pub returns : goal.returns
returns c =
    let l = c.loop-q in
    let e : l.q ≡ c.args.n = omega arith in
    rw e at l.invariant
