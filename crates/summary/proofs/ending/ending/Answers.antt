use mathlib.Core.Path.{◌≡◌}
use Prim.Native.Nat.{◌<◌}
use native.Mathlib.Omega.{arith}
use lib.ListN.{get_or}
use Rattle.summary.proofs.Along.{few, vertex, row}
use Rattle.summary.proofs.Forward.{Forward, forward_none, forward_fits, forward_long, forward_more, forward_done}
use Rattle.summary.proofs.ending.ending.Goals as goal
use Rattle.summary.proofs.ending.ending.Goals.{In-loop-j}

pub loop-j-init : goal.loop-j-init
loop-j-init c = (λ g T K. forward_none T _ _ K)

-- the sums so far, of the graph that there is
so_far : (c : In-loop-j)
    → Forward c.requires.1 c.args.mark.now c.loop-j.sums c.loop-j.j
so_far c = let p = c.requires in c.loop-j.invariant p.0 p.1 p.2

known : (c : In-loop-j) → get_or c.args.order.now c.loop-j.j 0 < c.requires.0.n
known c = vertex c.requires.1 c.loop-j.j c.loop-j-test.true

small : (c : In-loop-j) → get_or c.args.order.now c.loop-j.j 0 < 128
small c = omega (arith, known c, few c.requires.1)

pub bounds-order-j : goal.bounds-order-j
bounds-order-j c = let T = c.requires.1 in omega (arith, few T, T.vertices)

pub overflow_cast-u : goal.overflow_cast-u
overflow_cast-u c = omega (arith, small (goal.at.overflow_cast-u c).In-loop-j)

pub sum-own-requires : goal.sum-own-requires
sum-own-requires c =
    let l = c.loop-j in
    record { u_bound = small (goal.at.sum-own-requires c).In-loop-j; u_bound_2 = forward_fits c.requires.1 _ l.sums l.j c.loop-j-test.true (so_far (goal.at.sum-own-requires c).In-loop-j) }

pub offset_bounds-sums-u : goal.offset_bounds-sums-u
offset_bounds-sums-u c = omega (arith, small (goal.at.offset_bounds-sums-u c).In-loop-j)

pub bounds-sums-u : goal.bounds-sums-u
bounds-sums-u c = omega (arith, small (goal.at.bounds-sums-u c).In-loop-j)

pub tell-requires : goal.tell-requires
tell-requires c =
    let l = c.loop-j in
    let p = c.requires in record { row = row p.1 _ (known (goal.at.tell-requires c).In-loop-j); sums_len = forward_long p.1 _ l.sums l.j c.loop-j-test.true (so_far (goal.at.tell-requires c).In-loop-j) c.sum-own.result c.sum-own.ensures }

pub loop-j-preserved : goal.loop-j-preserved
loop-j-preserved c =
    let l = c.loop-j in λ g T K. forward_more T _ l.sums l.j c.loop-j-test.true (l.invariant g T K) c.sum-own.result c.sum-own.ensures _ c.tell.ensures

pub returns : goal.returns
returns c g T K =
    let l = c.loop-j in
    let e : l.j ≡ c.args.n = omega arith in
    forward_done T _ l.sums (rw e at (l.invariant g T K))
