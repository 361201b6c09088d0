use borrow.Author.Tests.{ne_eqb}
use Rattle.rules.specs.Rows.{of_record}
use Rattle.rules.proofs.record_fails.Goals as goal

pub returns-in-2 : goal.returns-in-2
unfolding of_record
returns-in-2 c = rw c.in-2.is c.stray.ensures

pub returns-in-3 : goal.returns-in-3
unfolding of_record
returns-in-3 c = rw c.in-3.is c.late.ensures

pub returns-in-5 : goal.returns-in-5
unfolding of_record
returns-in-5 c = rw c.in-5.is c.wrong_kind.ensures

pub returns-in-7 : goal.returns-in-7
unfolding of_record
returns-in-7 c = rw c.in-7.is c.wrong_vertex.ensures

pub returns-in-9 : goal.returns-in-9
unfolding of_record
returns-in-9 c = rw c.in-9.is c.wrong_edge.ensures

pub returns-in_default : goal.returns-in_default
unfolding of_record
returns-in_default c =
    let r = c.in_default.in_default-own.rest in
    simp (ne_eqb _ _ r.1, ne_eqb _ _ r.0.1, ne_eqb _ _ r.0.0.1, ne_eqb _ _ r.0.0.0.1, ne_eqb _ _ r.0.0.0.0.1) c.not_above.ensures
