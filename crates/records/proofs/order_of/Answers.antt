use lib.Dec.{lit<}
use borrow.Author.Tests.{eq-eqb, ne_eqb}
use Rattle.graph.specs.File.{order}
use Rattle.records.proofs.order_of.Goals as goal

pub returns-then-b-eq84 : goal.returns-then-b-eq84
unfolding order
returns-then-b-eq84 c = (simp (← c.before.byte-b.ensures.0, eq-eqb _ _ c.if-b-eq84.true), lit< tt)

pub returns-then-b-eq86 : goal.returns-then-b-eq86
unfolding order
returns-then-b-eq86 c = (simp (← c.before.before.byte-b.ensures.0, ne_eqb _ _ c.before.if-b-eq84.false, eq-eqb _ _ c.if-b-eq86.true), lit< tt)

pub returns-then-b-eq69 : goal.returns-then-b-eq69
unfolding order
returns-then-b-eq69 c = (simp (← c.before.before.before.byte-b.ensures.0, ne_eqb _ _ c.before.before.if-b-eq84.false, ne_eqb _ _ c.before.if-b-eq86.false, eq-eqb _ _ c.if-b-eq69.true), lit< tt)

pub returns : goal.returns
unfolding order
returns c = (simp (← c.before.before.before.byte-b.ensures.0, ne_eqb _ _ c.before.before.if-b-eq84.false, ne_eqb _ _ c.before.if-b-eq86.false, ne_eqb _ _ c.if-b-eq69.false), lit< tt)
