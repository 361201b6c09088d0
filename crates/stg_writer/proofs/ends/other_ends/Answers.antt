use mathlib.Core.Path.{refl}
use borrow.Author.Tests.{lt-ltb, le-ltb}
use Rattle.stg_writer.specs.Before.{ends_other}
use Rattle.stg_writer.proofs.ends.other_ends.Goals as goal

pub returns-then-n-lt3 : goal.returns-then-n-lt3
unfolding ends_other
returns-then-n-lt3 c = rw (lt-ltb c.args.n 3 c.if-n-lt3.true) refl

pub returns-then-any_other : goal.returns-then-any_other
unfolding ends_other
returns-then-any_other c = rw (le-ltb c.args.n 3 c.if-n-lt3.false, ← c.any_other.ensures, c.if-any_other.true) refl

pub returns : goal.returns
unfolding ends_other
returns c = rw (le-ltb c.args.n 3 c.if-n-lt3.false, ← c.any_other.ensures, c.if-any_other.false) refl
