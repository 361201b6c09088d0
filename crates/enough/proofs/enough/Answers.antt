use Rattle.std.proofs.lemmas.Result.{err_from_is_err_and}
use Rattle.reader.proofs.Laying.{usable}
use Rattle.enough.proofs.Entries.{enough-accepted, enough-refused}
use Rattle.enough.proofs.enough.Goals as goal

pub returns-in_err-take_rows : goal.returns-in_err-take_rows
returns-in_err-take_rows c =
    let p = err_from_is_err_and c.from_residual.result c.from_residual.ensures.1 in
    rw (p.1, p.2) (enough-refused c.in_err-take_rows.ensures.taken_into)

pub fewest_of-requires : goal.fewest_of-requires
fewest_of-requires c = usable c.in_ok-take_rows.ensures.taken_into (λ i. (c.shared_slice_known-1.given i).fits)

pub returns : goal.returns
returns c = enough-accepted _ c.in_ok-take_rows.ensures.taken_into c.fewest_of.ensures
