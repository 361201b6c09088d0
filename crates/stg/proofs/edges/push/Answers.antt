use mathlib.Core.Path.{◌∙◌}
use native.Mathlib.Omega.{arith}
use lib.ListN.{length-set}
use borrow.Author.Rules.{rules}
use Rattle.stg.proofs.Cut.{listed-full, listed_more}
use Rattle.stg.proofs.edges.push.Goals as goal

pub returns-then-many-ge1025 : goal.returns-then-many-ge1025
returns-then-many-ge1025 c =
    let a = c.args in
    record { by_index = (λ xs L. listed-full xs a.many a.list.now a.edge c.if-many-ge1025.true L); upper_bound = search rules }

pub returns : goal.returns
returns c =
    let a = c.args in
    record { by_index = (λ xs L. listed_more xs a.many a.list.now a.edge (omega arith) L); upper_bound = (omega arith, length-set a.list.now a.many a.edge ∙ c.requires.1) }
