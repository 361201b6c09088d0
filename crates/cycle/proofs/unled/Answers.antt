use native.Mathlib.Omega.{arith}
use borrow.Author.Rules.{rules}
use Rattle.cycle.proofs.Line.{unled-none, unled-free, unled-held}
use Rattle.cycle.proofs.unled.Goals as goal
use Rattle.cycle.proofs.unled.Goals.{then-waiting-v-eq0, else-waiting-v-eq0}

pub loop-v-init : goal.loop-v-init
loop-v-init c = (search rules, unled-none c.args.waiting.now c.args.order.now c.requires.order_len)

pub loop-v-preserved : goal.loop-v-preserved
loop-v-preserved c =
    let l = c.loop-v in
    let w = c.args.waiting.now in
    let U = l.invariant.1 in
    elim c.if-waiting-v-eq0.branch [
      | then-waiting-v-eq0 x ↦ rw (x.order-is, x.found-is) (omega (arith, l.invariant.0), unled-free w l.v l.order l.found U (omega (arith, l.invariant.0, c.requires.n_bound, c.loop-v-test.true)) x.if-waiting-v-eq0.true)
      | else-waiting-v-eq0 x ↦ rw (x.order-is, x.found-is) (omega (arith, l.invariant.0), unled-held w l.v l.order l.found U x.if-waiting-v-eq0.false)
    ]
