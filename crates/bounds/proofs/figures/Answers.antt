use Rattle.reader.proofs.Again.{usable_again}
use Rattle.bounds.proofs.figures.Goals as goal

pub figures_of-requires : goal.figures_of-requires
figures_of-requires c = usable_again c.requires c.along_rows.ensures

pub returns : goal.returns
returns c = rw c.along_rows.ensures.graph at c.figures_of.ensures
