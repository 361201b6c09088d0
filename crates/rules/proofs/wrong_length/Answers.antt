use Rattle.graph.specs.Rules.{rule1}
use borrow.Author.Rules.{rules}
use Rattle.rules.proofs.wrong_length.Goals as goal

pub returns : goal.returns
unfolding rule1
returns c = search rules
