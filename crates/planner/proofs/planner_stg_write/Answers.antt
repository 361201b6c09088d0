use mathlib.Core.Path.{◌∙◌, ap}
use Rattle.codes.proofs.Counts.{wrote_counted}
use Rattle.codes.specs.Coded.{coded_wrote_of}
use Rattle.planner.proofs.planner_stg_write.Goals as goal

pub returns : goal.returns
returns c = (c.coded_count.ensures ∙ wrote_counted c.write.result ∙ ap coded_wrote_of c.write.ensures.0, c.write.ensures.1)
