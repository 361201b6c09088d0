use Rattle.std.proofs.lemmas.Result.{err_from_is_err_and}
use Rattle.reader.proofs.Laying.{usable}
use Rattle.stg_writer.proofs.Writing.{of-accepted, of-refused}
use Rattle.stg_writer.proofs.write.Goals as goal

pub returns-in_err-take_rows : goal.returns-in_err-take_rows
returns-in_err-take_rows c =
    let p = err_from_is_err_and c.from_residual.result c.from_residual.ensures.1 in
    rw (p.1, p.2) (of-refused _ c.in_err-take_rows.ensures.taken_into)

pub written-requires : goal.written-requires
written-requires c = usable c.in_ok-take_rows.ensures.taken_into (λ i. (c.shared_slice_known-1.given i).fits)

pub returns : goal.returns
returns c = of-accepted _ c.in_ok-take_rows.ensures.taken_into c.written.ensures.0 c.written.ensures.1
