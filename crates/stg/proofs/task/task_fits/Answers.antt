use mathlib.Core.Path.{sym}
use native.Mathlib.Omega.{arith}
use Rattle.stg.proofs.Tasks.{task-short, task-is}
use Rattle.stg.proofs.task.task_fits.Goals as goal

pub returns-then-row-lt3 : goal.returns-then-row-lt3
returns-then-row-lt3 c = λ xs H. sym (task-short _ _ xs (omega (arith, H.all_many, c.if-row-lt3.true)))

pub returns : goal.returns
returns c = λ xs H. rw (H.all_many, H.has_number, H.has_time, H.has_count) (sym (task-is _ _ xs (omega (arith, H.all_many)) H.fine))
