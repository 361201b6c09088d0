use mathlib.Core.Path.{◌∙◌, sym}
use native.Mathlib.Omega.{arith}
use Rattle.faults.proofs.Lines.{passing-none, passing-more, long-here, none-long}
use Rattle.faults.proofs.of_lines.Goals as goal

pub loop-at-init : goal.loop-at-init
loop-at-init c = passing-none c.args.t.now

pub returns-then-is_long : goal.returns-then-is_long
returns-then-is_long c =
    long-here c.args.t.now c.loop-at.at c.loop-at-test.true c.loop-at.invariant (sym c.is_long.ensures ∙ c.if-is_long.true)

pub loop-at-smaller : goal.loop-at-smaller
loop-at-smaller c = omega (arith, c.next-at.ensures)

pub loop-at-preserved : goal.loop-at-preserved
loop-at-preserved c =
    passing-more c.args.t.now c.loop-at.at c.loop-at-test.true c.loop-at.invariant (sym c.is_long.ensures ∙ c.if-is_long.false) _
    c.next-at.ensures

pub returns : goal.returns
returns c =
    none-long c.args.t.now c.loop-at.at c.loop-at-test.false c.loop-at.invariant
