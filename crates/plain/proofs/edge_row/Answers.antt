use Rattle.plain.specs.Plain.{edge_row_of}
use Rattle.plain.proofs.edge_row.Goals as goal

pub returns : goal.returns
unfolding edge_row_of
returns c = simp (c.word.ensures.0, c.byte-2.ensures.0, c.byte.ensures.0, c.byte-to.ensures.0, c.byte-from.ensures.0)
