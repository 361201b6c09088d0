use mathlib.Core.Path.{◌∙◌}
use Rattle.codes.proofs.Counts.{path_counted}
use Rattle.planner.proofs.planner_path.Goals as goal

pub returns : goal.returns
returns c = record { found = c.path.result; of = c.path.ensures; coded = c.coded_count.ensures ∙ path_counted c.path.result }
