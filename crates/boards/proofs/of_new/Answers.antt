use mathlib.Core.Path.{◌≡◌, refl}
use borrow.Author.Rules.{rules}
use Rattle.model.specs.Places.{first}
use Rattle.boards.specs.Points.{is_new_of, below, new_point, found}
use Rattle.boards.specs.declared.Point.TheVariants.{FewerEdges, Edge}
use Rattle.boards.proofs.Found.{found-some, found-none}
use Rattle.boards.proofs.of_new.Goals as goal
use Rattle.boards.proofs.of_new.Goals.{After-first_at}

searched : (c : After-first_at) → let g = c.args.g.now in let h = c.args.h.now in c.first_at.result ≡ below (first (is_new_of g.edge g.edges h.edge) h.edges) h.edges
unfolding is_new_of
searched c =
    let g = c.args.g.now in
    let h = c.args.h.now in
    c.first_at.ensures (is_new_of g.edge g.edges h.edge) (λ k b l q. search rules)

pub returns-in-Some : goal.returns-in-Some
unfolding new_point found
returns-in-Some c = found-some _ _ (searched (goal.at.returns-in-Some c).After-first_at) Edge FewerEdges c.in-Some.is

pub returns-in-None : goal.returns-in-None
unfolding new_point found
returns-in-None c = rw (found-none _ _ (searched (goal.at.returns-in-None c).After-first_at) c.in-None.is) refl
