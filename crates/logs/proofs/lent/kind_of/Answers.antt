use mathlib.Core.Path.{refl}
use borrow.Author.Tests.{eq-eqb, ne_eqb}
use Rattle.logs.proofs.lent.kind_of.Goals as goal

pub returns-then-key-eq1 : goal.returns-then-key-eq1
returns-then-key-eq1 c = rw (eq-eqb _ _ c.if-key-eq1.true) refl

pub returns-else-key-eq1 : goal.returns-else-key-eq1
returns-else-key-eq1 c = rw (ne_eqb _ _ c.if-key-eq1.false) refl
