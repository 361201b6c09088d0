use Rattle.std.proofs.Common.{◌∙◌}
use Rattle.texts.proofs.Cutting.{same-is}
use Rattle.texts.proofs.equal.Goals as goal

pub returns : goal.returns
returns c = c.eq.ensures ∙ same-is _ _
