use mathlib.Core.Path.{refl}
use Rattle.planner.proofs.step.Goals as goal

pub returns : goal.returns
returns c = rw (c.coded_report-said.ensures, c.tick-ticked.ensures) refl
