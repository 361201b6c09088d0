use mathlib.Core.Path.{◌∙◌, ap}
use Rattle.codes.specs.CodedRun.{coded_tick_of}
use Rattle.planner.proofs.planner_tick.Goals as goal

pub returns : goal.returns
returns c = c.coded_tick.ensures ∙ ap coded_tick_of c.tick.ensures
