use mathlib.Core.Path.{◌≡◌, refl, ◌∙◌}
use borrow.Author.Rules.{rules}
use Rattle.model.specs.Places.{first}
use Rattle.boards.specs.Points.{lower, differ, below, stage_point, found}
use Rattle.boards.specs.declared.Point.TheVariants.{Kind, Wcet}
use Rattle.boards.proofs.Found.{found-some, found-none}
use Rattle.boards.proofs.of_stages.Goals as goal
use Rattle.boards.proofs.of_stages.Goals.{After-first_at, After-first_at-2}

kinds : (c : After-first_at) → let g = c.args.g.now in c.first_at.result ≡ below (first (differ g.kind c.args.h.now.kind) g.n) g.n
unfolding differ
kinds c = c.first_at.ensures (differ c.args.g.now.kind c.args.h.now.kind) (λ k b l q. search rules)

wcets : (c : After-first_at-2) → let g = c.args.g.now in c.first_at-2.result ≡ below (first (lower c.args.h.now.wcet g.wcet) g.n) g.n
unfolding lower
wcets c = c.first_at-2.ensures (lower c.args.h.now.wcet c.args.g.now.wcet) (λ k b l q. search rules)

pub returns-in-Some : goal.returns-in-Some
unfolding stage_point found
returns-in-Some c = found-some _ _ (kinds (goal.at.returns-in-Some c).After-first_at) Kind _ c.in-Some.is

pub returns-in-Some-first_at : goal.returns-in-Some-first_at
unfolding stage_point found
returns-in-Some-first_at c = rw (found-none _ _ (kinds (goal.at.returns-in-Some-first_at c).After-first_at) c.in_default.is) (found-some _ _ (wcets (goal.at.returns-in-Some-first_at c).After-first_at-2) Wcet _ c.in-Some-first_at.is)

pub returns : goal.returns
unfolding stage_point found
returns c = c.of_edges.ensures ∙ rw (found-none _ _ (kinds (goal.at.returns c).After-first_at) c.in_default.is, found-none _ _ (wcets (goal.at.returns c).After-first_at-2) c.in_default-first_at.is) refl
