use mathlib.Core.Path.{◌∙◌}
use Rattle.codes.proofs.Counts.{gains_counted}
use Rattle.planner.proofs.planner_gains_altered.Goals as goal

pub returns : goal.returns
returns c = record { found = c.gains_altered.result; of = c.gains_altered.ensures; coded = c.coded_count.ensures ∙ gains_counted c.gains_altered.result }
