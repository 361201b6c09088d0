use borrow.Author.Rules.{rules}
use Rattle.recorded.specs.Log.{wrong_length_of}
use Rattle.formed.proofs.wrong_length.Goals as goal

pub returns : goal.returns
unfolding wrong_length_of
returns c = search rules
