use mathlib.Core.Path.{refl}
use Rattle.stg_scan.specs.Scan.{parts}
use Rattle.stg_scan.proofs.parts.Goals as goal

pub returns : goal.returns
unfolding parts
returns c = rw (c.blank.ensures, c.feed.ensures) refl
