use mathlib.Core.Path.{refl}
use borrow.Author.Tests.{lt-ltb, le-ltb}
use Rattle.writer.proofs.copied.Goals as goal

pub returns-then-out-size : goal.returns-then-out-size
returns-then-out-size c = (rw (c.whole.ensures, lt-ltb _ _ c.if-out-size.true), refl)

pub returns : goal.returns
returns c =
    (rw (le-ltb _ _ c.if-out-size.false), c.copy.ensures.after)
