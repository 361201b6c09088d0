use Prim.Native.Nat.{◌+◌}
use mathlib.Core.Path.{sym, ◌∙◌}
use native.Mathlib.Numerals.{add-one}
use borrow.Author.Rules.{rules}
use Rattle.stg.proofs.Reached.{handed, fault-of, kept-none, task-further, task_faulted, kept_more}
use Rattle.stg.proofs.lines.tasks_at.Goals as goal

pub loop-v-init : goal.loop-v-init
loop-v-init c = (c.requires.text_len_bound.3, kept-none c.args.text.now c.args.wcets.now c.args.after.now c.requires.blank)

pub returns-in_err-task : goal.returns-in_err-task
returns-in_err-task c =
    let l = c.loop-v in
    let F = fault-of c.task_at.result (l.v + 1) _ (sym c.in_err-task.was ∙ c.ok_or.ensures.value) in
    rw (handed _ _ c.from_residual.ensures.1, F.1)
    (rw (add-one l.v) (task_faulted c.args.text.now c.args.n l.v l.i c.requires.text_len_bound.2 (search rules) l.invariant.0 (rw F.0 at c.task_at.ensures)))

pub loop-v-preserved : goal.loop-v-preserved
loop-v-preserved c =
    let l = c.loop-v in
    let s = c.args.text.now in
    let T = rw c.in_ok-task.ensures.ok_part at c.task_at.ensures in
    (rw (add-one l.v) (task-further s c.args.n l.v l.i c.requires.text_len_bound.2 (search rules) l.invariant.0 _ _ _ T), kept_more s c.args.n l.v l.i c.requires.text_len_bound.2 (search rules) l.invariant.0 l.wcets l.after _ _ _ _ (search rules) l.invariant.1 T c.spread.ensures)
