use mathlib.Core.Path.{refl}
use Rattle.stg_text.specs.Fields.{digit}
use Rattle.stg_scan.proofs.digit.Goals as goal

pub returns : goal.returns
unfolding digit
returns c = refl
