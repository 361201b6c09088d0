use mathlib.Core.Path.{refl}
use Rattle.mends.specs.Answers.{tight}
use Rattle.mend.proofs.mend_into.Goals as goal

pub returns-then-out-file : goal.returns-then-out-file
unfolding tight
returns-then-out-file c = record { answer = rw (c.whole.ensures, c.if-out-file.true) refl; file_holds = refl; list_holds = refl }

pub returns : goal.returns
unfolding tight
returns c =
    let x = c.fill.ensures in
    record { answer = rw (c.if-out-file.false, x.sizes) refl; file_holds = x.file_holds; list_holds = x.list_holds }
