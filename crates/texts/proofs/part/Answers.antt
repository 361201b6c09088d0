use Rattle.std.proofs.Common.{refl}
use Rattle.texts.proofs.Cutting.{part-got}
use Rattle.texts.proofs.part.Goals as goal

pub returns : goal.returns
returns c = part-got _ _ _ c.get.result _ _ refl c.get.ensures.lookup.0 c.unwrap_or.ensures
