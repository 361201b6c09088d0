use mathlib.Core.Path.{◌≡◌}
use Prim.Native.Nat.{◌-◌, ◌<◌}
use native.Mathlib.Omega.{arith}
use lib.ListN.{get_or}
use Rattle.summary.proofs.Along.{few, vertex, row}
use Rattle.summary.proofs.Backward.{Backward, backward_none, backward_fits, backward_more, backward_done}
use Rattle.summary.proofs.starting.starting.Goals as goal
use Rattle.summary.proofs.starting.starting.Goals.{In-loop-j}

pub loop-j-init : goal.loop-j-init
loop-j-init c = (λ g T K. backward_none T _ _ K)

-- the sums so far, of the graph that there is
so_far : (c : In-loop-j)
    → Backward c.requires.1 c.args.mark.now c.loop-j.sums c.loop-j.j
so_far c = let p = c.requires in c.loop-j.invariant p.0 p.1 p.2

known : (c : In-loop-j) → get_or c.args.order.now (c.loop-j.j - 1) 0 < c.requires.0.n
known c = vertex c.requires.1 (c.loop-j.j - 1) (omega arith)

pub bounds-order-j : goal.bounds-order-j
bounds-order-j c = let T = c.requires.1 in omega (arith, few T, T.vertices)

pub overflow_cast-u : goal.overflow_cast-u
overflow_cast-u c = omega (arith, known (goal.at.overflow_cast-u c).In-loop-j, few c.requires.1)

pub sum-requires : goal.sum-requires
sum-requires c =
    let l = c.loop-j in
    let T = c.requires.1 in
    record { row = row T _ (known (goal.at.sum-requires c).In-loop-j); u_bound = backward_fits T _ l.sums l.j (l.j - 1) (omega arith) (omega arith) (so_far (goal.at.sum-requires c).In-loop-j) }

pub offset_bounds-sums-u : goal.offset_bounds-sums-u
offset_bounds-sums-u c = omega (arith, known (goal.at.offset_bounds-sums-u c).In-loop-j, few c.requires.1)

pub bounds-sums-u : goal.bounds-sums-u
bounds-sums-u c = omega (arith, known (goal.at.bounds-sums-u c).In-loop-j, few c.requires.1)

pub loop-j-preserved : goal.loop-j-preserved
loop-j-preserved c =
    let l = c.loop-j in
    λ g T K. backward_more T _ l.sums l.j (l.j - 1) (omega arith) (omega arith) (l.invariant g T K) c.sum.result c.sum.ensures

pub returns : goal.returns
returns c g T K =
    let l = c.loop-j in
    let e : l.j ≡ 0 = omega arith in
    backward_done T _ l.sums (rw e at (l.invariant g T K))
