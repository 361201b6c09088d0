use Rattle.formed.proofs.Passing.{met_none}
use Rattle.formed.proofs.begun.Goals as goal

pub returns : goal.returns
returns c = λ l. met_none l _ c.none.ensures
