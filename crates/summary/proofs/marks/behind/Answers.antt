use mathlib.Core.Path.{◌≡◌}
use Prim.Native.Nat.{◌-◌, ◌<◌}
use native.Mathlib.Omega.{arith}
use lib.ListN.{get_or}
use Rattle.summary.proofs.Along.{few, vertex, row}
use Rattle.summary.proofs.Marking.{backwards_none, backwards_more, backwards_done}
use Rattle.summary.proofs.marks.behind.Goals as goal
use Rattle.summary.proofs.marks.behind.Goals.{In-loop-j}

pub bounds-marks-v : goal.bounds-marks-v
bounds-marks-v c = omega (arith, c.requires.3, few c.requires.2)

pub loop-j-init : goal.loop-j-init
loop-j-init c = (λ g w T. backwards_none T _ (omega (arith, c.requires.3, few c.requires.2)))

-- the vertex before place j
known : (c : In-loop-j) → get_or c.args.order.now (c.loop-j.j - 1) 0 < c.requires.0.n
known c = vertex c.requires.2 (c.loop-j.j - 1) (omega arith)

pub bounds-order-j : goal.bounds-order-j
bounds-order-j c = let T = c.requires.2 in omega (arith, few T, T.vertices)

pub overflow_cast-u : goal.overflow_cast-u
overflow_cast-u c = omega (arith, known (goal.at.overflow_cast-u c).In-loop-j, few c.requires.2)

pub taken-requires : goal.taken-requires
taken-requires c = row c.requires.2 _ (known (goal.at.taken-requires c).In-loop-j)

pub bounds-marks-u : goal.bounds-marks-u
bounds-marks-u c = omega (arith, known (goal.at.bounds-marks-u c).In-loop-j, few c.requires.2)

pub loop-j-preserved : goal.loop-j-preserved
loop-j-preserved c =
    let l = c.loop-j in λ g w T. backwards_more T _ l.marks l.j (l.j - 1) c.taken.result (omega arith) (omega arith) c.taken.ensures (l.invariant g w T)

pub returns : goal.returns
returns c g w T =
    let l = c.loop-j in
    let e : l.j ≡ 0 = omega arith in
    backwards_done T _ l.marks (rw e at (l.invariant g w T))
