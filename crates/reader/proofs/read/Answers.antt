use Rattle.std.proofs.lemmas.Result.{err_from_is_err_and}
use Rattle.reader.proofs.Laying.{handed_over, handed_back}
use Rattle.reader.proofs.read.Goals as goal

pub returns-in_err-take_rows : goal.returns-in_err-take_rows
returns-in_err-take_rows c =
    let p = err_from_is_err_and c.from_residual.result c.from_residual.ensures.1 in
    rw (p.1, p.2) (handed_back c.args.file.now c.in_err-take_rows.ensures.taken_into)

pub returns : goal.returns
returns c = handed_over c.args.file.now c.take_rows.new.laid c.in_ok-take_rows.ensures.taken_into
