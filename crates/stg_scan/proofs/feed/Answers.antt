use mathlib.Core.Path.{refl}
use Rattle.stg_text.specs.Fields.{feed}
use Rattle.stg_scan.proofs.feed.Goals as goal

pub returns : goal.returns
unfolding feed
returns c = refl
