use Rattle.std.proofs.lemmas.Result.{err_from_is_err_and}
use Rattle.reader.proofs.Laying.{usable}
use Rattle.gains.proofs.Entries.{gains-accepted, gains-refused}
use Rattle.gains.proofs.gains.Goals as goal

pub returns-in_err-take_rows : goal.returns-in_err-take_rows
returns-in_err-take_rows c =
    let p = err_from_is_err_and c.from_residual.result c.from_residual.ensures.1 in
    rw (p.1, p.2) (gains-refused _ c.in_err-take_rows.ensures.taken_into)

pub gains_of-requires : goal.gains_of-requires
gains_of-requires c = usable c.in_ok-take_rows.ensures.taken_into (λ i. (c.shared_slice_known-1.given i).fits)

pub returns : goal.returns
returns c = gains-accepted _ c.in_ok-take_rows.ensures.taken_into c.gains_of.ensures
