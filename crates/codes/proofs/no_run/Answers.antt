use mathlib.Core.Path.{refl}
use Rattle.schedule.specs.Start.{no_run}
use Rattle.codes.proofs.no_run.Goals as goal

pub returns : goal.returns
unfolding no_run
returns c = refl
