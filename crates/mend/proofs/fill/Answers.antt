use mathlib.Core.Path.{refl}
use native.Mathlib.Omega.{arith}
use Rattle.model.proofs.Places.{count-le}
use Rattle.graph.specs.File.{records}
use Rattle.graph.proofs.Judging.{short}
use Rattle.mends.specs.Mends.{stays}
use Rattle.mends.proofs.Again.{mended-length}
use Rattle.mend_keys.proofs.KeySets.{known_by}
use Rattle.mend.proofs.fill.Goals as goal

pub mark-requires : goal.mark-requires
mark-requires c =
    (omega (arith, short c.args.file.now c.requires.0.whole), refl, refl)

pub lay-n-requires : goal.lay-n-requires
lay-n-requires c =
    (known_by _ _ _ _ c.mark.ensures.0 c.lower_of.ensures c.mark.ensures.1 c.requires.0.whole, c.requires.0, c.requires.1)

pub note_all-size-requires : goal.note_all-size-requires
note_all-size-requires c =
    (known_by _ _ _ _ c.mark.ensures.0 c.lower_of.ensures c.mark.ensures.1 c.requires.0.whole, c.requires.2)

pub overflow_mul-result : goal.overflow_mul-result
overflow_mul-result c =
    omega (arith, c.lay-n.ensures.0, count-le (stays c.args.file.now) (records c.args.file.now), short c.args.file.now c.requires.0.whole)

pub returns : goal.returns
returns c =
    let note = c.note_all-size.ensures in
    record {
      sizes = rw (c.lay-n.ensures.0, note.0, mended-length c.args.file.now) refl;
      file_holds = c.lay-n.ensures.1;
      list_holds = note.1;
    }
