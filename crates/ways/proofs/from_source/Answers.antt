use mathlib.Core.Path.{refl}
use borrow.Author.Tests.{eq-eqb, ne_eqb}
use Rattle.ways.proofs.from_source.Goals as goal

pub returns-then-led-eq0 : goal.returns-then-led-eq0
returns-then-led-eq0 c = rw (eq-eqb _ 0 c.if-led-eq0.true) refl

pub returns-else-led-eq0 : goal.returns-else-led-eq0
returns-else-led-eq0 c = rw (ne_eqb _ 0 c.if-led-eq0.false) refl
