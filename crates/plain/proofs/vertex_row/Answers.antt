use Rattle.plain.specs.Plain.{vertex_row_of}
use Rattle.plain.proofs.vertex_row.Goals as goal

pub returns : goal.returns
unfolding vertex_row_of
returns c = simp (c.word.ensures.0, c.byte-4.ensures.0, c.byte-3.ensures.0, c.byte-2.ensures.0, c.byte.ensures.0)
