use mathlib.Core.Path.{◌≡◌}
use Prim.Native.Nat.{◌-◌, ◌<◌}
use native.Mathlib.Omega.{arith}
use lib.ListN.{get_or}
use Rattle.summary.proofs.Along.{few, vertex, row}
use Rattle.ways.proofs.Counting.{counting_none, counting_more, counting_done}
use Rattle.ways.proofs.table.Goals as goal
use Rattle.ways.proofs.table.Goals.{In-loop-j}

pub loop-j-init : goal.loop-j-init
loop-j-init c = λ g T. counting_none T

known : (c : In-loop-j) → get_or c.args.order.now (c.loop-j.j - 1) 0 < c.requires.0.n
known c = vertex c.requires.1 (c.loop-j.j - 1) (omega arith)

pub bounds-order-j : goal.bounds-order-j
bounds-order-j c = let T = c.requires.1 in omega (arith, few T, T.vertices)

pub overflow_cast-u : goal.overflow_cast-u
overflow_cast-u c = omega (arith, known (goal.at.overflow_cast-u c).In-loop-j, few c.requires.1)

pub onward-requires : goal.onward-requires
onward-requires c =
    let p = c.requires in
    record { row = row p.1 _ (known (goal.at.onward-requires c).In-loop-j); by_index = (c.loop-j.invariant p.0 p.1).small }

pub offset_bounds-ways-u : goal.offset_bounds-ways-u
offset_bounds-ways-u c = omega (arith, known (goal.at.offset_bounds-ways-u c).In-loop-j, few c.requires.1)

pub bounds-ways-u : goal.bounds-ways-u
bounds-ways-u c = omega (arith, known (goal.at.bounds-ways-u c).In-loop-j, few c.requires.1)

pub loop-j-preserved : goal.loop-j-preserved
loop-j-preserved c =
    let l = c.loop-j in
    λ g T. counting_more T l.ways l.j (l.j - 1) (omega arith) (omega arith) (l.invariant g T) c.onward.result c.onward.ensures

pub returns : goal.returns
returns c g T =
    let l = c.loop-j in
    let e : l.j ≡ 0 = omega arith in
    counting_done T _ (rw e at (l.invariant g T))
