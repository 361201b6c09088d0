use Rattle.stg.proofs.Kept.{first_taken, second-taken, third_taken}
use Rattle.stg.proofs.row.take.Goals as goal

pub returns-in-0 : goal.returns-in-0
returns-in-0 c = λ xs H. first_taken _ _ _ xs c.in-0.is H

pub returns-in-1 : goal.returns-in-1
returns-in-1 c = λ xs H. second-taken _ _ _ xs c.in-1.is H

pub returns-in-2 : goal.returns-in-2
returns-in-2 c = λ xs H. third_taken _ _ _ xs c.in-2.is H
