use mathlib.Core.Path.{◌∙◌, ap}
use Rattle.codes.proofs.Counts.{play_finished}
use Rattle.codes.specs.CodedRun.{coded_play_of}
use Rattle.planner.proofs.planner_run.Goals as goal

pub returns : goal.returns
returns c = (c.coded_finish.ensures ∙ play_finished c.run.result ∙ ap coded_play_of c.run.ensures.0, c.run.ensures.1)
