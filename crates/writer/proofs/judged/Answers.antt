use mathlib.Core.Path.{refl, sym}
use Rattle.std.proofs.lemmas.Result.{err_from_is_err_and}
use Rattle.writer.proofs.judged.Goals as goal

pub returns-in_err-judge : goal.returns-in_err-judge
returns-in_err-judge c =
    let p = err_from_is_err_and c.from_residual.result c.from_residual.ensures.1 in
    (rw (p.1, p.2, ← c.in_err-judge.ensures) refl, rw p.1 refl)

pub returns : goal.returns
returns c =
    let p = c.copied.ensures in
    (rw (← c.in_ok-judge.ensures) p.0, p.1)
