use Rattle.std.proofs.lemmas.Result.{err_from_is_err_and}
use Rattle.reader.proofs.Laying.{usable}
use Rattle.bounds.proofs.Entries.{path-accepted, path-refused}
use Rattle.bounds.proofs.path.Goals as goal

pub returns-in_err-take_rows : goal.returns-in_err-take_rows
returns-in_err-take_rows c =
    let p = err_from_is_err_and c.from_residual.result c.from_residual.ensures.1 in
    rw (p.1, p.2) (path-refused _ c.in_err-take_rows.ensures.taken_into)

pub path_of-requires : goal.path_of-requires
path_of-requires c = usable c.in_ok-take_rows.ensures.taken_into (λ i. (c.shared_slice_known-1.given i).fits)

pub returns : goal.returns
returns c = path-accepted _ c.in_ok-take_rows.ensures.taken_into c.path_of.ensures
