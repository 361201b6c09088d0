use mathlib.Core.Path.{◌∙◌, ap}
use Rattle.codes.specs.Coded.{coded_mend_of}
use Rattle.planner.proofs.planner_mend.Goals as goal

pub returns : goal.returns
returns c =
    let m = c.mend.ensures in (c.coded_mend.ensures ∙ ap coded_mend_of m.0, m.1, m.2)
