use mathlib.Core.Path.{◌≡◌, refl, ◌∙◌}
use borrow.Author.Rules.{rules}
use borrow.Author.Tests.{eq-eqb, ne_eqb}
use Rattle.model.specs.Places.{first}
use Rattle.boards.specs.Points.{lower, below, point_of, found}
use Rattle.boards.specs.declared.Point.TheVariants.{Cores}
use Rattle.boards.proofs.Found.{found-some, found-none}
use Rattle.boards.proofs.worse.Goals as goal
use Rattle.boards.proofs.worse.Goals.{After-first_at}

searched : (c : After-first_at) → let g = c.args.g in c.first_at.result ≡ below (first (lower g.cores c.args.h.cores) g.kinds) g.kinds
unfolding lower
searched c = c.first_at.ensures (lower c.args.g.cores c.args.h.cores) (λ k b l q. search rules)

pub returns-then-g-h : goal.returns-then-g-h
unfolding point_of found
returns-then-g-h c = rw (ne_eqb _ _ c.if-g-h.true) refl

pub returns-then-g-h-2 : goal.returns-then-g-h-2
unfolding point_of found
returns-then-g-h-2 c = rw (eq-eqb _ _ c.if-g-h.false, ne_eqb _ _ c.if-g-h-2.true) refl

pub returns-in-Some : goal.returns-in-Some
unfolding point_of found
returns-in-Some c = rw (eq-eqb _ _ c.if-g-h.false, eq-eqb _ _ c.if-g-h-2.false) (found-some _ _ (searched (goal.at.returns-in-Some c).After-first_at) Cores _ c.in-Some.is)

pub returns-in-None : goal.returns-in-None
unfolding point_of found
returns-in-None c = c.of_stages.ensures ∙ rw (eq-eqb _ _ c.if-g-h.false, eq-eqb _ _ c.if-g-h-2.false, found-none _ _ (searched (goal.at.returns-in-None c).After-first_at) c.in-None.is) refl
