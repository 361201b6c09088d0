use mathlib.Core.Path.{sym, ap, ◌∙◌}
use mathlib.Core.Bool.{not}
use native.Mathlib.Omega.{arith}
use borrow.Author.Count.{below_none, below_more}
use Rattle.model.proofs.Places.{first-at, first-none}
use Rattle.plain.specs.Plain.{types_in}
use Rattle.plain.proofs.types.Goals as goal

pub loop-k-init : goal.loop-k-init
loop-k-init c = below_none _

pub returns-then-not-type_row : goal.returns-then-not-type_row
unfolding types_in
returns-then-not-type_row c =
    let t = ap not (sym c.type_row.ensures) ∙ c.if-not-type_row.true-raw in
    let m = c.min-most.ensures in
    sym (first-at _ _ _ (omega (arith, m, c.loop-k-test.true)) c.loop-k.invariant t)

pub loop-k-preserved : goal.loop-k-preserved
loop-k-preserved c =
    below_more _ _ c.loop-k.invariant (ap not (sym c.type_row.ensures) ∙ c.if-not-type_row.false-raw)

pub returns : goal.returns
unfolding types_in
returns c =
    let m = c.min-most.ensures in
    m ∙ sym (first-none _ _ (λ j h. c.loop-k.invariant j (omega (arith, h, m, c.loop-k-test.false))))
