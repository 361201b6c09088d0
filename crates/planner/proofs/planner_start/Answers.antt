use mathlib.Core.Path.{◌∙◌, ap}
use Rattle.codes.specs.CodedRun.{coded_start_of}
use Rattle.planner.proofs.planner_start.Goals as goal

pub returns : goal.returns
returns c = c.coded_start.ensures ∙ ap coded_start_of c.start.ensures
