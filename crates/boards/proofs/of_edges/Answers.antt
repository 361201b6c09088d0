use mathlib.Core.Path.{◌≡◌, refl, ◌∙◌}
use borrow.Author.Rules.{rules}
use borrow.Author.Tests.{eq-eqb, ne_eqb}
use Rattle.model.specs.Places.{first}
use Rattle.boards.specs.Points.{differ, below, edge_point}
use Rattle.boards.proofs.Found.{found-one, found-none}
use Rattle.boards.proofs.of_edges.Goals as goal
use Rattle.boards.proofs.of_edges.Goals.{After-first_at}

searched : (c : After-first_at) → let g = c.args.g.now in c.first_at.result ≡ below (first (differ g.edge c.args.h.now.edge) g.edges) g.edges
unfolding differ
searched c = c.first_at.ensures (differ c.args.g.now.edge c.args.h.now.edge) (λ k b l q. search rules)

pub returns-then-g-h : goal.returns-then-g-h
unfolding edge_point
returns-then-g-h c = c.of_new.ensures ∙ rw (ne_eqb _ _ c.if-g-h.true) refl

pub returns-in-Some : goal.returns-in-Some
unfolding edge_point
returns-in-Some c = c.of_new-in-Some.ensures ∙ rw (eq-eqb _ _ c.if-g-h.false, found-one _ _ (searched (goal.at.returns-in-Some c).After-first_at) c.in-Some.is) refl

pub returns-in-None : goal.returns-in-None
unfolding edge_point
returns-in-None c = rw (eq-eqb _ _ c.if-g-h.false, found-none _ _ (searched (goal.at.returns-in-None c).After-first_at) c.in-None.is) refl
