use mathlib.Core.Path.{◌∙◌, ap}
use Rattle.codes.proofs.Counts.{wrote_counted}
use Rattle.codes.specs.Coded.{coded_wrote_of}
use Rattle.planner.proofs.planner_stg_read.Goals as goal

pub returns : goal.returns
returns c = (c.coded_count.ensures ∙ wrote_counted c.read.result ∙ ap coded_wrote_of c.read.ensures.0, c.read.ensures.1)
