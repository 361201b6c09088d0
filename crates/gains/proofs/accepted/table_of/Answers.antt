use Rattle.graph.specs.Model.{as_model}
use Rattle.summary.specs.Tables.{Tables}
use Rattle.bounds.proofs.Weighing.{small-stages}
use Rattle.gaining.proofs.Accepted.{usable_weighed, usable_gainable}
use Rattle.gains.proofs.accepted.table_of.Goals as goal
use Rattle.gains.proofs.accepted.table_of.Goals.{After-afresh-summary}

pub scaled-weight-requires : goal.scaled-weight-requires
scaled-weight-requires c = small-stages c.requires.accepted

pub afresh-summary-requires : goal.afresh-summary-requires
afresh-summary-requires c = (_, usable_weighed c.requires c.scaled-weight.ensures)

-- the summary of the graph that was laid
summed : (c : After-afresh-summary) → Tables (as_model c.args.laid.now.graph) c.scaled-weight.result c.afresh-summary.result
summed c = c.afresh-summary.ensures _ (usable_weighed c.requires c.scaled-weight.ensures)

pub gains-requires : goal.gains-requires
gains-requires c = (_, usable_gainable c.requires c.scaled-weight.ensures (summed (goal.at.gains-requires c).After-afresh-summary))

pub returns : goal.returns
returns c =
    c.gains.ensures _ (usable_gainable c.requires c.scaled-weight.ensures (summed (goal.at.returns c).After-afresh-summary))
