use mathlib.Core.Path.{refl}
use native.Mathlib.Omega.{arith}
use Rattle.model.proofs.Bools.{bit-one}
use Rattle.mend_record.specs.Laying.{notes}
use Rattle.mend_record.proofs.note_fate.Goals as goal

pub note-b-requires : goal.note-b-requires
note-b-requires c =
    let x = c.note-a.ensures in
    (c.requires.0, omega (arith, x.0, c.requires.1, c.requires.3), λ t. omega (arith, x.0, x.2, c.requires.2, c.requires.3, bit-one _ t))

pub note-c-requires : goal.note-c-requires
note-c-requires c =
    let y = c.note-b.ensures in
    let x = c.note-a.ensures in
    (c.requires.0, omega (arith, x.0, y.0, c.requires.1, c.requires.3), λ t. omega (arith, x.0, x.2, y.0, y.2, c.requires.2, c.requires.3, bit-one _ t))

pub note-requires : goal.note-requires
note-requires c =
    let z = c.note-c.ensures in
    let y = c.note-b.ensures in
    let x = c.note-a.ensures in
    (c.requires.0, omega (arith, x.0, y.0, z.0, c.requires.1, c.requires.3), λ t. omega (arith, x.0, x.2, y.0, y.2, z.0, z.2, c.requires.2, c.requires.3, bit-one _ t))

pub returns : goal.returns
unfolding notes
returns c =
    let w = c.note.ensures in
    let z = c.note-c.ensures in
    let y = c.note-b.ensures in
    let x = c.note-a.ensures in
    (rw (w.0, z.0, y.0, x.0) refl, cc)
