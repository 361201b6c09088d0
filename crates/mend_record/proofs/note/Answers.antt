use mathlib.Core.Path.{refl}
use Rattle.mend_record.specs.Laying.{entry_bytes}
use Rattle.mend_record.proofs.Laying.{put-length}
use native.Mathlib.Omega.{arith}
use Rattle.mend_record.proofs.note.Goals as goal

pub returns-then-on : goal.returns-then-on
returns-then-on c =
    let q = rw c.entry-r.ensures.0 at c.put.ensures in
    (rw c.if-on.true refl, q, rw q (put-length c.args.list.now c.args.n (entry_bytes c.args.letter c.args.k) c.args.on c.requires.2))

pub returns-else-on : goal.returns-else-on
returns-else-on c =
    let q = rw c.entry-r.ensures.0 at c.put.ensures in
    (rw c.if-on.false (omega arith), q, rw q (put-length c.args.list.now c.args.n (entry_bytes c.args.letter c.args.k) c.args.on c.requires.2))
