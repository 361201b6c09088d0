use Rattle.std.proofs.lemmas.Result.{err_from_is_err_and}
use Rattle.reader.proofs.Laying.{usable}
use Rattle.bounds.proofs.Entries.{bounds-accepted, bounds-refused}
use Rattle.bounds.proofs.bounds.Goals as goal

pub returns-in_err-take_rows : goal.returns-in_err-take_rows
returns-in_err-take_rows c =
    let p = err_from_is_err_and c.from_residual.result c.from_residual.ensures.1 in
    rw (p.1, p.2) (bounds-refused c.in_err-take_rows.ensures.taken_into)

pub figures_of-requires : goal.figures_of-requires
figures_of-requires c = usable c.in_ok-take_rows.ensures.taken_into (λ i. (c.shared_slice_known-1.given i).fits)

pub returns : goal.returns
returns c = bounds-accepted c.in_ok-take_rows.ensures.taken_into c.figures_of.ensures
