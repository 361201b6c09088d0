use mathlib.Core.Path.{◌∙◌}
use Rattle.sets.proofs.Joining.{joined_is}
use Rattle.sets.proofs.join.Goals as goal

pub returns : goal.returns
returns c = c.put.ensures ∙ joined_is _ _ _ _ _ c.before.before.before.row-old.ensures c.before.with.ensures
