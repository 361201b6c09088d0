use mathlib.Core.Path.{◌≡◌}
use Prim.Native.Nat.{◌-◌, ◌<◌}
use native.Mathlib.Omega.{arith}
use Rattle.paths.proofs.Heads.{looked_none, looked_taken, looked_left, looked_all}
use Rattle.paths.proofs.ahead.foremost.Goals as goal
use Rattle.paths.proofs.ahead.foremost.Goals.{In-loop-v}

pub overflow_add-most : goal.overflow_add-most
overflow_add-most c = omega (arith, c.requires.fits c.args.source c.requires.vertex)

pub loop-v-init : goal.loop-v-init
loop-v-init c = looked_none c.requires

-- the place that is looked at
vertex : (c : In-loop-v) → c.loop-v.v - 1 < c.args.n
vertex c = omega arith

small : (c : In-loop-v) → c.loop-v.v - 1 < 128
small c = omega (arith, vertex c, c.requires.few)

pub overflow_add-sum : goal.overflow_add-sum
overflow_add-sum c = omega (arith, c.requires.fits (c.loop-v.v - 1) (vertex (goal.at.overflow_add-sum c).In-loop-v))

pub loop-v-preserved-then-led-v : goal.loop-v-preserved-then-led-v
loop-v-preserved-then-led-v c =
    let l = c.loop-v in
    looked_taken l.v (l.v - 1) l.head l.most (omega arith) (omega arith) l.invariant c.if-led-v.true

pub loop-v-preserved : goal.loop-v-preserved
loop-v-preserved c =
    let l = c.loop-v in
    looked_left l.v (l.v - 1) l.head l.most (omega arith) (omega arith) l.invariant c.if-led-v.false

pub returns : goal.returns
returns c =
    let l = c.loop-v in
    let e : l.v ≡ 0 = omega arith in
    looked_all (rw e at l.invariant)
