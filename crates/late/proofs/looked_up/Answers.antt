use mathlib.Core.Path.{ap, ◌∙◌}
use Prim.Native.Nat.{ℕ}
use lib.Dec.{eqb}
use Rattle.graph.specs.declared.Graph.{Graph}
use Rattle.tick.specs.Run.{left_of}
use Rattle.tick.specs.Lists.{GraphOf}
use Rattle.leaps.specs.Leaps.{Fresh}
use Rattle.leaps.proofs.Stopping.{lent}
use Rattle.late.proofs.Answers.{fresh, ticks-played, has_ended}
use Rattle.late.proofs.looked_up.Goals as goal
use Rattle.late.proofs.looked_up.Goals.{After-begun-begun, Start}

-- the graph that is laid
abbrev graph : Start → Graph
graph s = s.args.laid.now.graph

lists : (s : Start) → let x = s.args.laid.now in GraphOf x.graph x.graph.kinds x.graph.n x.graph.cores x.graph.kind x.graph.edge x.starts
lists s = let u = s.requires.usable in lent (graph s) u.accepted s.args.laid.now.starts u.along.starts

-- the record that is played
fresh-by : (c : After-begun-begun) → Fresh (graph (goal.at.After-begun-begun c).Start) c.begun-begun.result
fresh-by c =
    let s = (goal.at.After-begun-begun c).Start in
    fresh (graph s) c.requires.usable.accepted c.args.times.now c.requires.fitting c.args.d c.begun-begun.result (c.begun-begun.ensures (graph s) (lists s).edges)

pub begun-begun-requires : goal.begun-begun-requires
begun-begun-requires c =
    let s = (goal.at.begun-begun-requires c).Start in
    record { edges_of = (graph s, (lists s).edges, c.requires.usable.rows); times_len = c.requires.fitting.as_many }

pub until-run-requires : goal.until-run-requires
until-run-requires c =
    let s = (goal.at.until-run-requires c).Start in
    (graph s, lists s, fresh-by (goal.at.until-run-requires c).After-begun-begun)

pub total-yes-requires : goal.total-yes-requires
total-yes-requires c = c.requires.usable.accepted.few_vertices

pub returns : goal.returns
unfolding left_of
returns c =
    let s = (goal.at.returns c).Start in
    let g = graph s in
    let A = c.requires.usable.accepted in
    let F = c.requires.fitting in
    let e = c.args.times.now in
    let begun = c.begun-begun.ensures g (lists s).edges in
    let end = c.until-run.ensures g (lists s) (fresh-by (goal.at.returns c).After-begun-begun) in (
      ap (λ (x : ℕ). eqb x 0) c.total-yes.ensures ∙ has_ended g A e F c.args.d c.begun-begun.result begun c.until-run.result end,
      ticks-played g A e F c.args.d c.begun-begun.result begun c.until-run.result end,
    )
