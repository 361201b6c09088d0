use Rattle.std.proofs.Common.{◌≡◌, ◌∙◌, refl, ap, Ok, length, arith}
use Rattle.texts.specs.Text.{decimal}
use Rattle.texts.proofs.Numbers.{no_number, number_there, number_large, more_there, more_large}
use Rattle.texts.proofs.value.Goals as goal

pub returns-then-is_empty-is_digits : goal.returns-then-is_empty-is_digits
returns-then-is_empty-is_digits c = no_number c.args.w.now _ _ c.is_empty.ensures c.is_digits.ensures c.if-is_empty-is_digits.true

pub loop-b-init : goal.loop-b-init
unfolding decimal
loop-b-init c = (refl, omega arith)

pub returns-in_default : goal.returns-in_default
returns-in_default c =
    number_large c.args.w.now _ _ c.is_empty.ensures c.is_digits.ensures c.if-is_empty-is_digits.false c.loop-b.b-index c.loop-b-test.true
    (more_large c.args.w.now c.loop-b.n c.loop-b.b-index c.loop-b.invariant.0 c.in_default.ensures)

pub loop-b-preserved : goal.loop-b-preserved
loop-b-preserved c = more_there c.args.w.now c.loop-b.n c.loop-b.b-index c.loop-b.invariant.0 c.in-Some.more c.in-Some.ensures

pub returns : goal.returns
returns c =
    let w = c.args.w.now in
    let i : c.loop-b.b-index ≡ length w = omega (arith, c.loop-b.auto.b-index-end, c.loop-b-test.false) in
    let e : c.loop-b.n ≡ decimal w (length w) = rw i at c.loop-b.invariant.0 in
    ap Ok e ∙ number_there w _ _ c.is_empty.ensures c.is_digits.ensures c.if-is_empty-is_digits.false (rw e at c.loop-b.invariant.1)
