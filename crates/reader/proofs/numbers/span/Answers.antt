use mathlib.Core.Path.{sym, ◌∙◌}
use Rattle.graph.specs.Rules.{places}
use Rattle.reader.proofs.numbers.span.Goals as goal

pub returns-then-per_record : goal.returns-then-per_record
unfolding places
returns-then-per_record c = rw (sym c.per_record.ensures ∙ c.if-per_record.true)

pub returns-else-per_record : goal.returns-else-per_record
unfolding places
returns-else-per_record c = rw (sym c.per_record.ensures ∙ c.if-per_record.false)
