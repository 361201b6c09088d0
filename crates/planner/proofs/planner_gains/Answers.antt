use mathlib.Core.Path.{◌∙◌}
use Rattle.codes.proofs.Counts.{gains_counted}
use Rattle.planner.proofs.planner_gains.Goals as goal

pub returns : goal.returns
returns c = record { found = c.gains.result; of = c.gains.ensures; coded = c.coded_count.ensures ∙ gains_counted c.gains.result }
