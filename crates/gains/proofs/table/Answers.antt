use Rattle.reader.proofs.Again.{usable_again}
use Rattle.gains.proofs.table.Goals as goal

pub table_of-requires : goal.table_of-requires
table_of-requires c = usable_again c.requires c.along_rows.ensures

pub returns : goal.returns
returns c = rw c.along_rows.ensures.graph at c.table_of.ensures
