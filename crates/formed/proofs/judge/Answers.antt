use mathlib.Core.Path.{sym, ◌∙◌}
use native.Mathlib.Omega.{arith}
use Rattle.formed.proofs.Passing.{few-records, form_length, form_record, form_end}
use Rattle.formed.proofs.judge.Goals as goal

pub returns-then-wrong_length : goal.returns-then-wrong_length
returns-then-wrong_length c = rw c.whole.ensures (sym (form_length _ _ (sym c.wrong_length.ensures ∙ c.if-wrong_length.true)))

pub overflow_cast-result : goal.overflow_cast-result
overflow_cast-result c =
    let f = rw c.in-Err.is at c.first_fault.ensures in
    omega (arith, f.1, few-records _ (sym c.wrong_length.ensures ∙ c.if-wrong_length.false))

pub returns-then-not-is_empty : goal.returns-then-not-is_empty
returns-then-not-is_empty c =
    let y = form_end _ _ (sym c.wrong_length.ensures ∙ c.if-wrong_length.false) c.requires _ (rw c.in-Ok.is at c.first_fault.ensures) _ c.is_empty.ensures in
    rw c.whole-then-not-is_empty.ensures (sym (rw c.if-not-is_empty.true at y))

pub returns-in-Err : goal.returns-in-Err
returns-in-Err c = sym (form_record _ _ (sym c.wrong_length.ensures ∙ c.if-wrong_length.false) _ (rw c.in-Err.is at c.first_fault.ensures))

pub returns-else-not-is_empty : goal.returns-else-not-is_empty
returns-else-not-is_empty c =
    let y = form_end _ _ (sym c.wrong_length.ensures ∙ c.if-wrong_length.false) c.requires _ (rw c.in-Ok.is at c.first_fault.ensures) _ c.is_empty.ensures in
    sym (rw c.if-not-is_empty.false at y)
