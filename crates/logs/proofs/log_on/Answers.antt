use mathlib.Core.Path.{◌≡◌, refl, sym, ap, ◌∙◌, subst}
use mathlib.Core.List.{List, ◌++◌}
use Prim.Native.Nat.{ℕ, ◌*◌, ◌≤◌}
use native.Mathlib.Omega.{arith}
use lib.ListN.{length, drop}
use Rattle.std.proofs.lemmas.Result.{err_from_is_err_and}
use Rattle.model.specs.Places.{that}
use Rattle.graph.specs.declared.Graph.{Graph}
use Rattle.tick.specs.Run.{left_of}
use Rattle.tick.specs.Lists.{GraphOf}
use Rattle.times.specs.Times.{Fitting}
use Rattle.times.proofs.Fits.{times_fit}
use Rattle.leaps.specs.Leaps.{Fresh, end_of}
use Rattle.leaps.proofs.Stopping.{lent}
use Rattle.sorting.specs.Sorted.{Holding}
use Rattle.logs.proofs.Logging.{is_key, key_bound, fresh-begun, in_reach, all-keys, key_below, log_is, no_room, with-room, untimed, timed}
use Rattle.logs.proofs.log_on.Goals as goal
use Rattle.logs.proofs.log_on.Goals.{In_ok-judge, After-begun-begun, After-gather-m, After-play-done, After-sort, Start}

-- the graph that is laid
abbrev graph : Start → Graph
graph s = s.args.laid.now.graph

lists : (s : Start) → let x = s.args.laid.now in GraphOf x.graph x.graph.kinds x.graph.n x.graph.cores x.graph.kind x.graph.edge x.starts
lists s = lent (graph s) s.requires.accepted s.args.laid.now.starts s.requires.along.starts

-- the times fit
fit : (c : In_ok-judge) → Fitting (graph (goal.at.In_ok-judge c).Start) c.args.times.now
fit c = let g = graph (goal.at.In_ok-judge c).Start in times_fit g c.args.times.now (sym (c.in_ok-judge.ensures g refl refl))

-- the record that is played
fresh : (c : After-begun-begun) → Fresh (graph (goal.at.After-begun-begun c).Start) c.begun-begun.result
fresh c =
    let s = (goal.at.After-begun-begun c).Start in
    let g = graph s in
    subst (Fresh g) (sym (c.begun-begun.ensures g (lists s).edges)) (fresh-begun g c.requires.accepted c.args.times.now (fit (goal.at.After-begun-begun c).In_ok-judge))

pub judge-requires : goal.judge-requires
judge-requires c = c.requires.accepted.few_vertices

pub returns-in_err-judge : goal.returns-in_err-judge
returns-in_err-judge c =
    let g = graph (goal.at.returns-in_err-judge c).Start in
    let p = err_from_is_err_and c.from_residual.result c.from_residual.ensures.1 in
    (rw (p.1, p.2) (sym (untimed g c.args.times.now (length c.args.out.now) _ (sym (c.in_err-judge.ensures g refl refl)))), rw p.1 refl)

pub begun-begun-requires : goal.begun-begun-requires
begun-begun-requires c =
    let s = (goal.at.begun-begun-requires c).Start in
    record { edges_of = (graph s, (lists s).edges, c.requires.rows); times_len = (fit (goal.at.begun-begun-requires c).In_ok-judge).as_many }

pub play-done-requires : goal.play-done-requires
play-done-requires c =
    let s = (goal.at.play-done-requires c).Start in
    (graph s, lists s, fresh (goal.at.play-done-requires c).After-begun-begun)

-- the run that was played
ends : (p : After-play-done) → p.play-done.result ≡ end_of (graph (goal.at.After-play-done p).Start) (left_of p.begun-begun.result)
ends p = let s = (goal.at.After-play-done p).Start in p.play-done.ensures (graph s) (lists s) (fresh (goal.at.After-play-done p).After-begun-begun)

pub gather-m-requires : goal.gather-m-requires
gather-m-requires c =
    let s = (goal.at.gather-m-requires c).Start in
    let g = graph s in
    let A = c.requires.accepted in
    let F = fit (goal.at.gather-m-requires c).In_ok-judge in
    record { n_bound = (A.few_vertices, F.as_many, refl); by_index = in_reach g A c.args.times.now F c.begun-begun.result c.play-done.result (c.begun-begun.ensures g (lists s).edges) (ends (goal.at.gather-m-requires c).After-play-done) }

-- the keys of all records
gathered : (c : After-gather-m) → let g = graph (goal.at.After-gather-m c).Start in
    Holding (is_key g c.args.times.now) (key_bound g c.args.times.now) c.gather-m.result c.gather-m.new.keys
gathered c =
    let s = (goal.at.After-gather-m c).Start in
    let g = graph s in
    all-keys g c.requires.accepted c.args.times.now (fit (goal.at.After-gather-m c).In_ok-judge) c.begun-begun.result c.play-done.result (c.begun-begun.ensures g (lists s).edges) (ends (goal.at.After-gather-m c).After-play-done)
    c.gather-m.result c.gather-m.new.keys c.gather-m.ensures

few-keys : (c : After-gather-m) → c.gather-m.result ≤ 256
few-keys c = omega (arith, c.gather-m.ensures.few, c.requires.accepted.few_vertices)

pub sort-requires : goal.sort-requires
sort-requires c =
    record { keys_len = (c.gather-m.ensures.long, few-keys (goal.at.sort-requires c).After-gather-m); by_index = (_, _, gathered (goal.at.sort-requires c).After-gather-m) }

-- and in order
ordered : (c : After-sort) → let x = c.gather-m in
    let g = graph (goal.at.After-sort c).Start in
    (length (that (is_key g c.args.times.now) (key_bound g c.args.times.now)) ≡ x.result)
    × (c.sort.new.keys ≡ that (is_key g c.args.times.now) (key_bound g c.args.times.now) ++ drop x.result x.new.keys)
ordered c = c.sort.ensures _ _ (gathered (goal.at.After-sort c).After-gather-m)

pub overflow_mul-size : goal.overflow_mul-size
overflow_mul-size c = omega (arith, few-keys (goal.at.overflow_mul-size c).After-gather-m)

pub returns-then-out-size : goal.returns-then-out-size
returns-then-out-size c =
    let g = graph (goal.at.returns-then-out-size c).Start in
    let x = c.gather-m in
    let o = ordered (goal.at.returns-then-out-size c).After-sort in
    let e = c.args.times.now in
    let room = length c.args.out.now in (
      rw (c.whole.ensures, timed g e room (sym (c.in_ok-judge.ensures g refl refl)))
          (no_room g c.requires.accepted e (fit (goal.at.returns-then-out-size c).In_ok-judge) x.result c.sort.new.keys (drop x.result x.new.keys) o.0 o.1 room c.if-out-size.true),
      refl,
    )

pub hand_over-requires : goal.hand_over-requires
hand_over-requires c =
    let g = graph (goal.at.hand_over-requires c).Start in
    let x = c.gather-m in
    let o = ordered (goal.at.hand_over-requires c).After-sort in record {
      m_bound = (few-keys (goal.at.hand_over-requires c).After-gather-m, c.if-out-size.false);
      by_index = key_below g c.requires.accepted c.args.times.now (fit (goal.at.hand_over-requires c).In_ok-judge) x.result c.sort.new.keys (drop x.result x.new.keys) o.0 o.1;
    }

pub returns : goal.returns
returns c =
    let g = graph (goal.at.returns c).Start in
    let x = c.gather-m in
    let A = c.requires.accepted in
    let F = fit (goal.at.returns c).In_ok-judge in
    let o = ordered (goal.at.returns c).After-sort in
    let e = c.args.times.now in
    let out = c.args.out.now in (
      with-room g A e F x.result c.sort.new.keys (drop x.result x.new.keys) o.0 o.1 (length out) c.if-out-size.false
          ∙ sym (timed g e (length out) (sym (c.in_ok-judge.ensures g refl refl))),
      c.hand_over.ensures
          ∙ ap (λ (l : List ℕ). l ++ drop (8 * x.result) out) (log_is g A e F x.result c.sort.new.keys (drop x.result x.new.keys) o.0 o.1),
    )
