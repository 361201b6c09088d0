use mathlib.Core.Path.{refl, sym, ◌∙◌}
use Rattle.std.proofs.lemmas.Result.{err_from_is_err_and}
use Rattle.graph.specs.declared.Graph.{Graph}
use Rattle.reader.specs.Laid.{Usable}
use Rattle.reader.proofs.Laying.{usable, handed_over, handed_back}
use Rattle.times.proofs.Fits.{times_fit}
use Rattle.tick.specs.Lists.{EdgesOf}
use Rattle.schedule.specs.Start.{started_on}
use Rattle.schedule.proofs.Answers.{start-accepted, start-refused, started-refused}
use Rattle.schedule.proofs.start.Goals as goal
use Rattle.schedule.proofs.start.Goals.{In_ok-take_rows}

-- the graph that was laid
abbrev graph : In_ok-take_rows → Graph
graph t = t.take_rows.new.laid.graph

laid : (t : In_ok-take_rows) → Usable t.take_rows.new.laid
laid t = usable t.in_ok-take_rows.ensures.taken_into (λ i. (t.shared_slice_known-1.given i).fits)

edges : (t : In_ok-take_rows) → let x = t.take_rows.new.laid in EdgesOf x.graph x.graph.n x.graph.edge x.starts
edges t = let u = laid t in record { accepted = u.accepted; n_is = refl; edges_are = refl; starts_are = u.along.starts }

pub returns-in_err-take_rows : goal.returns-in_err-take_rows
returns-in_err-take_rows c =
    let p = err_from_is_err_and c.from_residual.result c.from_residual.ensures.1 in
    rw (p.1, p.2) (sym (start-refused c.args.file.now _ (handed_back _ c.in_err-take_rows.ensures.taken_into) _ refl c.args.times.now))

pub judge-requires : goal.judge-requires
judge-requires c = (laid (goal.at.judge-requires c).In_ok-take_rows).accepted.few_vertices

pub returns-in_err-judge : goal.returns-in_err-judge
returns-in_err-judge c =
    let g = graph (goal.at.returns-in_err-judge c).In_ok-take_rows in
    let r = c.from_residual-in_err-judge in
    let p = err_from_is_err_and r.result r.ensures.1 in
    rw (p.1, p.2)
    (sym (start-accepted c.args.file.now _ (handed_over _ _ c.in_ok-take_rows.ensures.taken_into) refl c.args.times.now
    ∙ started-refused g c.args.times.now _ (sym (c.in_err-judge.ensures g refl refl))))

pub begun-requires : goal.begun-requires
begun-requires c =
    let t = (goal.at.begun-requires c).In_ok-take_rows in
    let g = graph t in
    record { edges_of = (g, edges t, (laid t).rows); times_len = (times_fit g c.args.times.now (sym (c.in_ok-judge.ensures g refl refl))).as_many }

pub returns : goal.returns
unfolding started_on
returns c =
    let t = (goal.at.returns c).In_ok-take_rows in
    let g = graph t in
    rw (start-accepted c.args.file.now _ (handed_over _ _ c.in_ok-take_rows.ensures.taken_into) refl c.args.times.now, ← c.in_ok-judge.ensures g refl refl, c.begun.ensures g (edges t)) refl
