use Rattle.stg.proofs.Kept.{no-numbers}
use Rattle.stg.proofs.row.start.Goals as goal

pub returns : goal.returns
returns c = λ n. no-numbers n c.none.result c.none.ensures
