use mathlib.Core.Path.{refl, sym}
use Rattle.std.proofs.lemmas.Result.{err_from_is_err_and}
use Rattle.mends.specs.Answers.{mend_of, file_after, list_after_of}
use Rattle.mends.proofs.Answering.{judged-mendable}
use Rattle.mend.proofs.mend.Goals as goal

pub returns-in_err-judge : goal.returns-in_err-judge
unfolding mend_of file_after list_after_of
returns-in_err-judge c =
    let p = err_from_is_err_and c.from_residual.result c.from_residual.ensures.1 in
    let a = sym c.in_err-judge.ensures in
    rw (p.1, p.2) (rw a refl, rw a refl, rw a refl)

pub mend_into-requires : goal.mend_into-requires
mend_into-requires c = judged-mendable c.args.file.now (sym c.in_ok-judge.ensures)

pub returns : goal.returns
unfolding mend_of file_after list_after_of
returns c =
    let x = c.mend_into.ensures in
    let a = sym c.in_ok-judge.ensures in
    (rw a x.answer, rw (a, ← x.answer) x.file_holds, rw (a, ← x.answer) x.list_holds)
