use mathlib.Core.Path.{◌∙◌, ap}
use Rattle.codes.proofs.Counts.{replay_finished}
use Rattle.codes.specs.CodedRun.{coded_replay_of}
use Rattle.planner.proofs.planner_replay.Goals as goal

pub returns : goal.returns
returns c = (c.coded_finish.ensures ∙ replay_finished c.replay.result ∙ ap coded_replay_of c.replay.ensures.0, c.replay.ensures.1)
