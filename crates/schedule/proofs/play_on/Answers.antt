use mathlib.Core.Path.{refl, sym, ap, ◌∙◌, subst}
use mathlib.Core.List.{List, ◌++◌}
use Prim.Native.Nat.{ℕ}
use native.Mathlib.Omega.{arith}
use lib.ListN.{length, drop, length-take}
use borrow.Author.Tests.{lt-ltb}
use Rattle.std.proofs.lemmas.Result.{err_from_is_err_and}
use Rattle.graph.specs.declared.Graph.{Graph}
use Rattle.lent.proofs.Firsts.{handed}
use Rattle.tick.specs.Lists.{GraphOf}
use Rattle.times.specs.Times.{Fitting}
use Rattle.times.proofs.Fits.{times_fit}
use Rattle.leaps.specs.Leaps.{Fresh}
use Rattle.leaps.proofs.Stopping.{lent}
use Rattle.schedule.specs.Whole.{play_in}
use Rattle.schedule.proofs.Answers.{played-accepted, played-refused, fresh-begun, finish-played, handed_over}
use Rattle.schedule.proofs.play_on.Goals as goal
use Rattle.schedule.proofs.play_on.Goals.{In_ok-judge, After-begun-begun, Start}

-- the graph that is laid
abbrev graph : Start → Graph
graph s = s.args.laid.now.graph

abbrev Lent : Start → Type 0
Lent s = let x = s.args.laid.now in GraphOf x.graph x.graph.kinds x.graph.n x.graph.cores x.graph.kind x.graph.edge x.starts

lists : (s : Start) → Lent s
lists s = lent (graph s) s.requires.accepted s.args.laid.now.starts s.requires.along.starts

-- the times fit
fit : (c : In_ok-judge) → Fitting (graph (goal.at.In_ok-judge c).Start) c.args.times.now
fit c = let g = graph (goal.at.In_ok-judge c).Start in times_fit g c.args.times.now (sym (c.in_ok-judge.ensures g refl refl))

-- the record that is played
fresh : (c : After-begun-begun) → Fresh (graph (goal.at.After-begun-begun c).Start) c.begun-begun.result
fresh c =
    let s = (goal.at.After-begun-begun c).Start in
    let g = graph s in
    subst (Fresh g) (sym (c.begun-begun.ensures g (lists s).edges)) (fresh-begun g c.args.times.now c.requires.accepted (fit (goal.at.After-begun-begun c).In_ok-judge))

pub judge-requires : goal.judge-requires
judge-requires c = c.requires.accepted.few_vertices

pub returns-in_err-judge : goal.returns-in_err-judge
returns-in_err-judge c =
    let g = graph (goal.at.returns-in_err-judge c).Start in
    let p = err_from_is_err_and c.from_residual.result c.from_residual.ensures.1 in
    (rw (p.1, p.2) (sym (played-refused g c.args.times.now _ (sym (c.in_err-judge.ensures g refl refl)) (length c.args.finishes.now))), rw p.1 refl)

pub returns-then-finishes-g : goal.returns-then-finishes-g
unfolding play_in
returns-then-finishes-g c =
    let g = graph (goal.at.returns-then-finishes-g c).Start in
    (rw (c.whole.ensures, played-accepted g c.args.times.now (sym (c.in_ok-judge.ensures g refl refl)) (length c.args.finishes.now), lt-ltb (length c.args.finishes.now) g.n c.if-finishes-g.true) refl, refl)

pub begun-begun-requires : goal.begun-begun-requires
begun-begun-requires c =
    let s = (goal.at.begun-begun-requires c).Start in
    record { edges_of = (graph s, (lists s).edges, c.requires.rows); times_len = (fit (goal.at.begun-begun-requires c).In_ok-judge).as_many }

pub play-done-requires : goal.play-done-requires
play-done-requires c =
    let s = (goal.at.play-done-requires c).Start in
    (graph s, lists s, fresh (goal.at.play-done-requires c).After-begun-begun)

pub hand_over-requires : goal.hand_over-requires
hand_over-requires c =
    omega (arith, c.requires.accepted.few_vertices, c.if-finishes-g.false, length-take c.args.laid.now.graph.n c.play-done.result.finishes)

pub returns : goal.returns
returns c =
    let s = (goal.at.returns c).Start in
    let g = graph s in
    let A = c.requires.accepted in
    let e = c.args.times.now in
    let old = c.args.finishes.now in
    let F = fit (goal.at.returns c).In_ok-judge in
    let begun = c.begun-begun.ensures g (lists s).edges in
    let ends = c.play-done.ensures g (lists s) (fresh (goal.at.returns c).After-begun-begun) in (
      finish-played g e A F c.begun-begun.result c.play-done.result begun ends (length old) c.if-finishes-g.false
          ∙ sym (played-accepted g e (sym (c.in_ok-judge.ensures g refl refl)) (length old)),
      handed c.play-done.result.finishes _ _ g.n (omega (arith, A.few_vertices)) c.hand_over.ensures ∙ ap (λ (x : List ℕ). x ++ drop g.n old) (handed_over g e A F c.begun-begun.result c.play-done.result begun ends),
    )
