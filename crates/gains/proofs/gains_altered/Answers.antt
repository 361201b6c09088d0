use Rattle.std.proofs.lemmas.Result.{err_from_is_err_and}
use Rattle.reader.proofs.Laying.{usable}
use Rattle.gaining.proofs.Accepted.{taken-long}
use Rattle.gains.proofs.Entries.{altered-accepted, altered-refused}
use Rattle.gains.proofs.gains_altered.Goals as goal

pub returns-in_err-take_rows : goal.returns-in_err-take_rows
returns-in_err-take_rows c =
    let p = err_from_is_err_and c.from_residual.result c.from_residual.ensures.1 in
    rw (p.1, p.2) (altered-refused _ _ _ c.in_err-take_rows.ensures.taken_into)

pub altered_of-requires : goal.altered_of-requires
altered_of-requires c =
    let T = c.in_ok-take_rows.ensures.taken_into in
    record { usable = usable T (λ i. (c.shared_slice_known-1.given i).fits); wcet_len = taken-long (λ i. (c.shared_slice_known-1.given i).fits) T }

pub returns : goal.returns
returns c = altered-accepted _ _ _ c.in_ok-take_rows.ensures.taken_into c.altered_of.ensures
