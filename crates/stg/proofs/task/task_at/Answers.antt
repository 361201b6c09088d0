use mathlib.Core.Path.{sym, ◌∙◌}
use Rattle.stg.proofs.Tasks.{line-fault, task-fault, task-read}
use Rattle.stg.proofs.task.task_at.Goals as goal

pub returns-in_err-row : goal.returns-in_err-row
returns-in_err-row c =
    let a = c.args in
    rw c.from_residual.ensures (line-fault a.text.now a.at a.n a.v (rw c.in_err-row.was at c.row_at.ensures))

pub returns-then-not-task_fits : goal.returns-then-not-task_fits
returns-then-not-task_fits c =
    let L = rw c.in_ok-row.was at c.row_at.ensures in
    task-fault _ _ _ _ _ _ L (sym (c.task_fits.ensures _ L.holds) ∙ c.if-not-task_fits.true)

pub returns : goal.returns
returns c =
    let L = rw c.in_ok-row.was at c.row_at.ensures in
    task-read _ _ _ _ _ _ L c.capped.result c.capped.ensures (sym (c.task_fits.ensures _ L.holds) ∙ c.if-not-task_fits.false)
