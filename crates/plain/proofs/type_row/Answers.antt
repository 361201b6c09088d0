use Rattle.plain.specs.Plain.{type_row_of}
use Rattle.plain.proofs.type_row.Goals as goal

pub returns : goal.returns
unfolding type_row_of
returns c = simp (c.word.ensures.0, c.byte-3.ensures.0, c.byte-2.ensures.0, c.byte.ensures.0, c.byte-cores.ensures.0)
