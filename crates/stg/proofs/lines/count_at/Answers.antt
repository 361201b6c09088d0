use mathlib.Core.Path.{sym, ◌∙◌}
use Rattle.stg.proofs.Reached.{count-fault, count_no, count-further, count-is, count-few}
use Rattle.stg.proofs.lines.count_at.Goals as goal

pub returns-in_err-row : goal.returns-in_err-row
returns-in_err-row c = rw c.from_residual.ensures (count-fault c.args.text.now (rw c.in_err-row.was at c.row_at.ensures))

pub returns-then-not-count_fits : goal.returns-then-not-count_fits
returns-then-not-count_fits c =
    let L = rw c.in_ok-row.was at c.row_at.ensures in
    count_no c.args.text.now _ _ L (sym (c.count_fits.ensures _ _ L.holds) ∙ c.if-not-count_fits.true)

pub returns : goal.returns
returns c =
    let s = c.args.text.now in
    let L = rw c.in_ok-row.was at c.row_at.ensures in
    let f = sym (c.count_fits.ensures _ _ L.holds) ∙ c.if-not-count_fits.false in
    (count-is s _ _ L, count-few s _ _ L f, count-further s _ _ L f)
