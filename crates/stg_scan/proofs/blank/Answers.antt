use mathlib.Core.Path.{refl}
use Rattle.stg_text.specs.Fields.{blank}
use Rattle.stg_scan.proofs.blank.Goals as goal

pub returns : goal.returns
unfolding blank
returns c = refl
