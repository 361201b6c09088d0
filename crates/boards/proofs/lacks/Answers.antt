use mathlib.Core.Path.{ap, ◌∙◌}
use mathlib.Core.Bool.{not}
use borrow.Author.Rules.{rules}
use lib.Dec.{eqb}
use lib.ListN.{take}
use Rattle.boards.proofs.Lists.{any_listed, any_taken}
use Rattle.boards.proofs.lacks.Goals as goal

pub returns : goal.returns
returns c =
    let a = c.args in
    ap not (c.contains.ensures.value ∙ any_listed (λ y. eqb y a.e) (take a.n a.edge.now) ∙ any_taken a.edge.now a.n a.e (search rules))
