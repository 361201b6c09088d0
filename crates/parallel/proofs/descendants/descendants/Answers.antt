use mathlib.Core.Path.{◌≡◌}
use Prim.Native.Nat.{◌-◌, ◌<◌}
use native.Mathlib.Omega.{arith}
use lib.ListN.{get_or}
use Rattle.summary.proofs.Along.{few, vertex, row}
use Rattle.parallel.proofs.Reaching.{reaching_none, reaching_more, reaching_done}
use Rattle.parallel.proofs.descendants.descendants.Goals as goal
use Rattle.parallel.proofs.descendants.descendants.Goals.{In-loop-j}

pub loop-j-init : goal.loop-j-init
loop-j-init c = λ g T. rw c.requires.t_value (reaching_none T)

known : (c : In-loop-j) → get_or c.args.order.now (c.loop-j.j - 1) 0 < 128
known c = let T = c.requires.weighed.1 in omega (arith, vertex T (c.loop-j.j - 1) (omega arith), few T)

pub bounds-order-j : goal.bounds-order-j
bounds-order-j c = let T = c.requires.weighed.1 in omega (arith, few T, T.vertices)

pub overflow_cast-u : goal.overflow_cast-u
overflow_cast-u c = omega (arith, known (goal.at.overflow_cast-u c).In-loop-j)

pub reached-got-requires : goal.reached-got-requires
reached-got-requires c =
    let l = c.loop-j in
    let T = c.requires.weighed.1 in
    row T _ (vertex T (l.j - 1) (omega arith))

pub put-requires : goal.put-requires
put-requires c = known (goal.at.put-requires c).In-loop-j

pub loop-j-preserved : goal.loop-j-preserved
loop-j-preserved c =
    let l = c.loop-j in
    λ g T. rw c.put.ensures (reaching_more T l.t l.j (l.j - 1) (omega arith) (omega arith) (l.invariant g T) c.reached-got.result c.reached-got.ensures)

pub returns : goal.returns
returns c g T =
    let l = c.loop-j in
    let e : l.j ≡ 0 = omega arith in
    reaching_done T _ (rw e at (l.invariant g T))
