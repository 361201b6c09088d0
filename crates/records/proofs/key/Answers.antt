use Rattle.graph.specs.File.{key_at}
use borrow.Author.Rules.{rules}
use Rattle.records.proofs.key.Goals as goal

pub returns : goal.returns
unfolding key_at
returns c = search rules
