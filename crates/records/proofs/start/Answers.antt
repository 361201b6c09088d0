use Rattle.records.proofs.Passing.{before-none}
use Rattle.records.proofs.start.Goals as goal

pub returns : goal.returns
returns c = before-none
