use mathlib.Core.Path.{◌≡◌, ◌∙◌}
use mathlib.Core.List.{append-nil}
use native.Mathlib.Omega.{arith}
use Rattle.model.specs.Places.{table, padded}
use Rattle.model.proofs.Tables.{table-length, padded-none, padded-more}
use Rattle.graph.specs.File.{is_order}
use Rattle.mends.specs.Mends.{must_be_zero_of}
use Rattle.mends.specs.Mended.{byte_from, everywhere}
use Rattle.mend_record.proofs.cleared.Goals as goal

pub loop-j-init : goal.loop-j-init
loop-j-init c = padded-none 8 _

pub loop-j-preserved : goal.loop-j-preserved
unfolding byte_from everywhere must_be_zero_of is_order
loop-j-preserved c =
    let a = c.args in
    let l = c.loop-j in
    rw (l.invariant, c.zero_if.ensures, c.must_be_zero-on.ensures, c.order_of-order.ensures.0) (padded-more 8 (byte_from a.file.now everywhere a.k) l.j (omega arith))

pub returns : goal.returns
unfolding padded
returns c =
    let a = c.args in
    let e : c.loop-j.j ≡ 8 = omega arith in
    let t = rw e at c.loop-j.invariant ∙ append-nil (table (byte_from a.file.now everywhere a.k) 8) in
    (t, rw t (table-length (byte_from a.file.now everywhere a.k) 8))
