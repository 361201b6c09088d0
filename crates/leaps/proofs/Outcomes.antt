-- No public contract of this crate leaves a choice.
use mathlib.Core.Path.{refl, sym, ◌∙◌}
use Rattle.outcome.specs.OneOutcome.{OneOutcome}
use Rattle.leaps.specs.contracts.until as until
use Rattle.leaps.proofs.until.Reads as until-reads
use Rattle.leaps.specs.contracts.play as play
use Rattle.leaps.proofs.play.Reads as play-reads

pub until-one : OneOutcome until.ended until-reads.Pre until-reads.Post
until-one κs a r r' ws ws' pre p q = (p pre.0 pre.1 pre.2 ∙ sym (q pre.0 pre.1 pre.2), refl)

pub play-one : OneOutcome play.ended play-reads.Pre play-reads.Post
play-one κs a r r' ws ws' pre p q = (p pre.0 pre.1 pre.2 ∙ sym (q pre.0 pre.1 pre.2), refl)
