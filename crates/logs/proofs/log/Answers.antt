use mathlib.Core.Path.{refl}
use Rattle.std.proofs.lemmas.Result.{err_from_is_err_and}
use Rattle.reader.proofs.Laying.{usable, handed_over, handed_back}
use Rattle.logs.proofs.Logging.{unread, read}
use Rattle.logs.proofs.log.Goals as goal

pub returns-in_err-take_rows : goal.returns-in_err-take_rows
returns-in_err-take_rows c =
    let p = err_from_is_err_and c.from_residual.result c.from_residual.ensures.1 in
    rw (p.1, p.2) (unread c.args.file.now _ (handed_back _ c.in_err-take_rows.ensures.taken_into) _ refl c.args.times.now c.args.out.now)

pub log_on-requires : goal.log_on-requires
log_on-requires c = usable c.in_ok-take_rows.ensures.taken_into (λ i. (c.shared_slice_known-1.given i).fits)

pub returns : goal.returns
returns c =
    let q = c.log_on in
    read c.args.file.now _ (handed_over _ _ c.in_ok-take_rows.ensures.taken_into) refl c.args.times.now c.args.out.now _ q.result q.ensures.0 q.ensures.1
