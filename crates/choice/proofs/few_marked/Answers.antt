use mathlib.Core.Path.{refl, fun_ext}
use Rattle.choice.proofs.few_marked.Goals as goal

pub returns : goal.returns
returns c = rw (c.size.ensures, fun_ext c.both.ensures.are) refl
