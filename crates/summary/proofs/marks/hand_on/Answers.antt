use mathlib.Core.Path.{◌≡◌}
use native.Mathlib.Omega.{arith}
use Rattle.summary.specs.Row.{many}
use Rattle.summary.proofs.Marking.{marked_none, marked-nothing, marked_more}
use Rattle.summary.proofs.marks.hand_on.Goals as goal

pub returns-then-not-marks-u : goal.returns-then-not-marks-u
returns-then-not-marks-u c = rw c.if-not-marks-u.true (marked-nothing _ _ _ _ _ c.requires.marks_len)

pub many-k-end-requires : goal.many-k-end-requires
many-k-end-requires c = c.requires.row.span

pub loop-k-init : goal.loop-k-init
loop-k-init c = marked_none _ _ _ c.args.marks.now _ c.requires.marks_len

pub loop-k-preserved : goal.loop-k-preserved
loop-k-preserved c =
    let l = c.loop-k in
    marked_more _ _ _ _ l.marks l.k c.nth.result c.nth.ensures.value c.nth.ensures.upper_bound l.invariant

pub returns : goal.returns
returns c =
    let e : c.loop-k.k ≡ many c.args.start.now c.args.u = omega (arith, c.many-k-end.ensures) in
    rw c.if-not-marks-u.false (rw e at c.loop-k.invariant)
