use Rattle.graph.specs.File.{word_at}
use borrow.Author.Rules.{rules}
use Rattle.records.proofs.word.Goals as goal

pub returns : goal.returns
unfolding word_at
returns c = search rules
