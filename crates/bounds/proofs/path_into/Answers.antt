use Rattle.reader.proofs.Again.{usable_again}
use Rattle.bounds.proofs.path_into.Goals as goal

pub path_of-requires : goal.path_of-requires
path_of-requires c = usable_again c.requires c.along_rows.ensures

pub returns : goal.returns
returns c = rw c.along_rows.ensures.graph at c.path_of.ensures
