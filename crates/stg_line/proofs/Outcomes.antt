-- No public contract of this crate leaves a choice, of the result or of what was lent.
use mathlib.Core.Path.{refl, sym, ◌∙◌}
use Rattle.outcome.specs.OneOutcome.{OneOutcome}
use Rattle.stg_line.specs.contracts.count_length as count-length
use Rattle.stg_line.proofs.count_length.Reads as count-length-reads
use Rattle.stg_line.specs.contracts.put_count as put_count
use Rattle.stg_line.proofs.put_count.Reads as put-count-reads
use Rattle.stg_line.specs.contracts.task_length as task-length
use Rattle.stg_line.proofs.task_length.Reads as task-length-reads
use Rattle.stg_line.specs.contracts.put_task as put-task
use Rattle.stg_line.proofs.put_task.Reads as put-task-reads

pub count-length-one : OneOutcome count-length.ended count-length-reads.Pre count-length-reads.Post
count-length-one κs a r r' ws ws' pre p q = (p ∙ sym q, refl)

pub put-count-one : OneOutcome put_count.ended put-count-reads.Pre put-count-reads.Post
put-count-one κs a r r' ws ws' pre p q = (p.0 ∙ sym q.0, λ i. ((p.1 ∙ sym q.1) i, (tt, tt)))

pub task-length-one : OneOutcome task-length.ended task-length-reads.Pre task-length-reads.Post
task-length-one κs a r r' ws ws' pre p q = (p.0 ∙ sym q.0, refl)

pub put-task-one : OneOutcome put-task.ended put-task-reads.Pre put-task-reads.Post
put-task-one κs a r r' ws ws' pre p q = (p.0 ∙ sym q.0, λ i. ((p.1 ∙ sym q.1) i, (tt, (tt, (tt, (tt, tt))))))
