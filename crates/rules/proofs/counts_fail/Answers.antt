use borrow.Author.Tests.{ne_eqb}
use Rattle.rules.specs.Rows.{of_counts}
use Rattle.rules.proofs.counts_fail.Goals as goal

pub returns-in-4 : goal.returns-in-4
unfolding of_counts
returns-in-4 c = rw c.in-4.is

pub returns-in-6 : goal.returns-in-6
unfolding of_counts
returns-in-6 c = rw c.in-6.is

pub returns-in_default : goal.returns-in_default
unfolding of_counts
returns-in_default c =
    let r = c.in_default.in_default-own.rest in
    simp (ne_eqb _ _ r.1, ne_eqb _ _ r.0.1)
