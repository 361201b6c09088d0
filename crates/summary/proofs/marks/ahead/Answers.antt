use mathlib.Core.Path.{◌≡◌}
use Prim.Native.Nat.{◌<◌}
use native.Mathlib.Omega.{arith}
use lib.ListN.{get_or}
use Rattle.summary.proofs.Along.{few, vertex, row}
use Rattle.summary.proofs.Marking.{onwards_none, onwards_more, onwards_done}
use Rattle.summary.proofs.marks.ahead.Goals as goal
use Rattle.summary.proofs.marks.ahead.Goals.{In-loop-j}

pub bounds-marks-v : goal.bounds-marks-v
bounds-marks-v c = omega (arith, c.requires.3, few c.requires.2)

pub loop-j-init : goal.loop-j-init
loop-j-init c = (λ g w T. onwards_none T _ (omega (arith, c.requires.3, few c.requires.2)))

-- the vertex at place j
known : (c : In-loop-j) → get_or c.args.order.now c.loop-j.j 0 < c.requires.0.n
known c = vertex c.requires.2 c.loop-j.j c.loop-j-test.true

small : (c : In-loop-j) → get_or c.args.order.now c.loop-j.j 0 < 128
small c = omega (arith, known c, few c.requires.2)

pub bounds-order-j : goal.bounds-order-j
bounds-order-j c = let T = c.requires.2 in omega (arith, few T, T.vertices)

pub hand_on-requires : goal.hand_on-requires
hand_on-requires c =
    let p = c.requires in
    record { row = row p.2 _ (known (goal.at.hand_on-requires c).In-loop-j); marks_len = (c.loop-j.invariant p.0 p.1 p.2).size }

pub loop-j-preserved : goal.loop-j-preserved
loop-j-preserved c =
    let l = c.loop-j in
    λ g w T. onwards_more T _ l.marks _ l.j c.loop-j-test.true (l.invariant g w T) c.hand_on.ensures

pub returns : goal.returns
returns c g w T =
    let l = c.loop-j in
    let e : l.j ≡ c.args.n = omega arith in
    onwards_done T _ l.marks (rw e at (l.invariant g w T))
