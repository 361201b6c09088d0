use Rattle.formed.proofs.Passing.{few-records}
use Rattle.lanes.proofs.Given.{lent-lists}
use Rattle.chart.proofs.picture.Goals as goal

pub name-requires : goal.name-requires
name-requires c = let f = c.requires.1 in record { lists = lent-lists c.requires.0 f; log_in_bounds = few-records c.args.log.now f.right_length }
