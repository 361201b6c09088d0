use mathlib.Core.Path.{◌≡◌}
use Prim.Native.Nat.{◌-◌, ◌<◌}
use native.Mathlib.Omega.{arith}
use Rattle.model.specs.PathCount.{path_count}
use Rattle.graph.specs.declared.Graph.{Graph}
use Rattle.graph.specs.Model.{as_model}
use Rattle.paths.specs.Ahead.{Sources}
use Rattle.visit.specs.Cells.{Ground, Laid, Kept, Reached, Ended}
use Rattle.visit.proofs.Opening.{numbers-few}
use Rattle.visit.proofs.Walking.{cell-known, kept-few, Visited, visited_none, visited_kept, visited_more, visited_all}
use Rattle.visit.proofs.largest.Goals as goal
use Rattle.visit.proofs.largest.Goals.{After-descend-depth, After-rooted-from, After-shared-d, At-loop-k, In-loop-k, Start}

-- the tables are those of the graph g
abbrev Given : Start → Graph → Type 0
Given s g =
    Ground g s.args.ways.now s.args.rows.now s.args.kind.now s.args.wcet.now s.args.share.now × Laid g s.args.edge.now s.args.start.now × Sources g s.args.led.now
    × (s.args.n ≡ g.n) × (s.args.count ≡ path_count (as_model g))

its : (s : Start) → Given s s.requires.0
its s = let p = s.requires in (p.1, p.2, p.3, p.4, p.5)

visited : (c : At-loop-k) (g : Graph) → Given (goal.at.At-loop-k c).Start g
    → Visited (as_model g) c.loop-k.cells c.loop-k.best c.loop-k.depth c.loop-k.k
visited c g H = c.loop-k.invariant g H.0 H.1 H.2 H.3 H.4

among : (c : In-loop-k) (g : Graph) → Given (goal.at.In-loop-k c).Start g → c.loop-k.k < path_count (as_model g)
among c g H = omega (arith, c.loop-k-test.true, H.4)

kept : (c : After-shared-d) (g : Graph) → Given (goal.at.After-shared-d c).Start g
    → Kept (as_model g) c.loop-k.cells c.shared-d.result c.loop-k.k
kept c g H = visited_kept H.0 c.loop-k.cells (visited (goal.at.After-shared-d c).At-loop-k g H) c.shared-d.result c.shared-d.ensures.upper_bound c.shared-d.ensures.k_bound

reached : (c : After-rooted-from) (g : Graph) → Given (goal.at.After-rooted-from c).Start g
    → Reached (as_model g) c.rooted-from.new.cells c.rooted-from.result c.loop-k.k
reached c g H = c.rooted-from.ensures g H.0 H.2 H.3 (among (goal.at.After-rooted-from c).In-loop-k g H) (kept (goal.at.After-rooted-from c).After-shared-d g H)

ended : (c : After-descend-depth) (g : Graph) → Given (goal.at.After-descend-depth c).Start g
    → Ended (as_model g) c.descend-depth.new.cells c.descend-depth.result c.loop-k.k
ended c g H = c.descend-depth.ensures g H.0 H.1 (among (goal.at.After-descend-depth c).In-loop-k g H) (reached (goal.at.After-descend-depth c).After-rooted-from g H)

pub loop-k-init : goal.loop-k-init
loop-k-init c = λ g D L S is all. visited_none (as_model g)

pub shared-d-requires : goal.shared-d-requires
shared-d-requires c =
    let l = c.loop-k in
    let B = visited (goal.at.shared-d-requires c).At-loop-k c.requires.0 (its (goal.at.shared-d-requires c).Start) in record { depth_bound = (kept-few (its (goal.at.shared-d-requires c).Start).0 l.cells l.depth B.stands, omega (arith, among (goal.at.shared-d-requires c).In-loop-k c.requires.0 (its (goal.at.shared-d-requires c).Start), (its (goal.at.shared-d-requires c).Start).0.few)); by_index = numbers-few (its (goal.at.shared-d-requires c).Start).0; by_index_2 = λ j h. cell-known (its (goal.at.shared-d-requires c).Start).0 (B.stands j h) }

pub rooted-from-requires : goal.rooted-from-requires
rooted-from-requires c =
    (c.requires.0, (its (goal.at.rooted-from-requires c).Start).0, (its (goal.at.rooted-from-requires c).Start).2, (its (goal.at.rooted-from-requires c).Start).3, among (goal.at.rooted-from-requires c).In-loop-k c.requires.0 (its (goal.at.rooted-from-requires c).Start), kept (goal.at.rooted-from-requires c).After-shared-d c.requires.0 (its (goal.at.rooted-from-requires c).Start))

pub descend-depth-requires : goal.descend-depth-requires
descend-depth-requires c =
    (c.requires.0, (its (goal.at.descend-depth-requires c).Start).0, (its (goal.at.descend-depth-requires c).Start).1, among (goal.at.descend-depth-requires c).In-loop-k c.requires.0 (its (goal.at.descend-depth-requires c).Start), reached (goal.at.descend-depth-requires c).After-rooted-from c.requires.0 (its (goal.at.descend-depth-requires c).Start))

pub overflow_sub-depth : goal.overflow_sub-depth
overflow_sub-depth c =
    (ended (goal.at.overflow_sub-depth c).After-descend-depth c.requires.0 (its (goal.at.overflow_sub-depth c).Start)).reached.some

pub at-c-requires : goal.at-c-requires
at-c-requires c =
    let E = ended (goal.at.at-c-requires c).After-descend-depth c.requires.0 (its (goal.at.at-c-requires c).Start) in
    omega (arith, kept-few (its (goal.at.at-c-requires c).Start).0 c.descend-depth.new.cells c.descend-depth.result E.reached.kept.stands, E.reached.some)

pub loop-k-preserved : goal.loop-k-preserved
loop-k-preserved c =
    let l = c.loop-k in λ g D L S is all. visited_more (visited (goal.at.loop-k-preserved c).At-loop-k g (D, L, S, is, all)) (ended (goal.at.loop-k-preserved c).After-descend-depth g (D, L, S, is, all)) (rw c.at-c.ensures at c.max-best.ensures)

pub returns : goal.returns
returns c g D L S is all =
    let l = c.loop-k in
    let e : l.k ≡ path_count (as_model g) = omega (arith, all) in
    visited_all D (rw e at (l.invariant g D L S is all))
