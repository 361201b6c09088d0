use mathlib.Core.Path.{refl}
use Rattle.mends.proofs.Reader.{stray-is}
use Rattle.mend_record.proofs.stray.Goals as goal

pub returns : goal.returns
returns c =
    let a = c.args in
    rw (stray-is a.file.now a.k, c.word-word.ensures.0, c.byte-spare.ensures.0, c.order_of-order.ensures.0) refl
