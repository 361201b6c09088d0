-- A run of an accepted file with times that fit, over what the entries' definitions say.
use Rattle.std.specs.Prelude.{Ok, Err}
use mathlib.Core.Path.{◌≡◌, refl, sym, ap, ◌∙◌}
use mathlib.Core.Bool.{Bool, true, false}
use mathlib.Core.List.{List, ◌++◌}
use Prim.Native.Nat.{ℕ, suc, ◌≤◌, ◌<◌}
use native.Mathlib.Omega.{arith}
use lib.Dec.{ltb}
use lib.ListN.{length, get_or, drop, length-append, length-drop, get_or-append}
use borrow.Author.Tests.{ltb-false}
use Rattle.model.specs.Places.{pick, table}
use Rattle.model.specs.Schedule.{FinishOf, Finish}
use Rattle.model.specs.ListSchedule.{steps}
use Rattle.model.proofs.Tables.{table-length, table_at}
use Rattle.graph.specs.Model.{as_model, AcceptedGraph}
use Rattle.graph.specs.Judge.{read_of}
use Rattle.graph.specs.Answer.{Answer}
use Rattle.graph.specs.Answer.{Accepted, Refused}
use Rattle.graph.proofs.Accepted as reader
use Rattle.units.specs.declared.Ticks.{Ticks}
use Rattle.tick.specs.Report.{Moved, Done}
use Rattle.times.specs.Times.{times_of, judge_times}
use Rattle.schedule.specs.Start.{started_on, start_of}
use Rattle.schedule.specs.Tick.{tick_on_of, tick_of}
use Rattle.leaps.specs.Finishes.{finish_at, finish_of}
use Rattle.schedule.specs.Whole.{play_in, play_beside, play_on_of, play_after, play_of, finishes_of}
use Rattle.schedule.specs.Played.{Played}
use Rattle.schedule.specs.Played.{Finish as Finished, Refused as NoRun}
use Rattle.times.proofs.Fits.{times_fit}
use Rattle.schedule.proofs.Answers.{start-accepted, tick-accepted}
use Rattle.leaps.proofs.Finishes.{finish-of-vertex, finish-of-all}
use Rattle.schedule.proofs.TickByTick.{tick_moves, tick-done, by_ticks}
use Rattle.claims.specs.Claims.{Bytes, IsAccepted, graph_in, schedule, run_at, RunLent}
use Rattle.claims.proofs.Lent.{kept-past}

module _ (s : List ℕ) (bytes : Bytes s) (ok : IsAccepted s) (e : List ℕ) (fit : judge_times (read_of s).graph e ≡ Accepted) where
  taken : AcceptedGraph (read_of s).graph
  taken = reader.taken s bytes ok

  pub start_is : start_of s e ≡ record { answer = Accepted; run = run_at s e 0 }
  unfolding started_on steps
  start_is = start-accepted s (read_of s) refl ok e ∙ rw fit refl

  pub tick_is : (t : ℕ) → t < finish_of (graph_in s) (times_of e) → tick_of s (run_at s e t) ≡ record { report = Moved; run = run_at s e (suc t) }
  unfolding tick_on_of
  tick_is t l =
      let g = (read_of s).graph in
      let f = times_fit g e fit in
      tick-accepted s (read_of s) refl ok (run_at s e t) ∙ rw (by_ticks g taken e f t (omega arith)).1 (tick_moves g taken e f t l)

  pub done-is : tick_of s (run_at s e (finish_of (graph_in s) (times_of e))) ≡ record { report = Done; run = run_at s e (finish_of (graph_in s) (times_of e)) }
  unfolding tick_on_of
  done-is =
      let g = (read_of s).graph in
      let f = times_fit g e fit in
      tick-accepted s (read_of s) refl ok (run_at s e (finish_of (graph_in s) (times_of e))) ∙ rw (by_ticks g taken e f (finish_of (graph_in s) (times_of e)) (omega arith)).1 (tick-done g taken e f)

  pub finishes-are : (v : ℕ) → v < (read_of s).graph.n → FinishOf (graph_in s) (schedule s e) v (finish_at (graph_in s) (times_of e) v)
  unfolding as_model
  finishes-are = finish-of-vertex taken.well_formed taken.acyclic (times_of e)

  pub finish-is : Finish (graph_in s) (schedule s e) (finish_of (graph_in s) (times_of e))
  finish-is = finish-of-all taken.well_formed taken.acyclic (times_of e)

-- ---- what a whole run gives

-- a run that has a finish: of an accepted file, with times that fit, and room for N finish instants
pub record Ran (s e : List ℕ) (m : ℕ) (F : Ticks) : Type 0 where
  pub is_accepted : IsAccepted s
  pub fit : judge_times (read_of s).graph e ≡ Accepted
  pub room : (read_of s).graph.n ≤ m
  pub finish : F.0 ≡ finish_of (graph_in s) (times_of e)

pub finish-told : (s e : List ℕ) (m : ℕ) (F : Ticks) → play_of s e m ≡ Finished F → Ran s e m F
unfolding play_of play_on_of play_in
finish-told s e m F h = after (read_of s).answer refl h
  where
    beside : IsAccepted s → (a : Answer) → judge_times (read_of s).graph e ≡ a → play_beside a (read_of s).graph e m ≡ Finished F → Ran s e m F
    beside ok (Ok _) q h = roomed (ltb m (read_of s).graph.n) refl h
      where
        roomed : (b : Bool) → ltb m (read_of s).graph.n ≡ b → ◌≡◌ {A = Played} (pick b (NoRun (record { number = 15; place = 0 })) (Finished (record { 0 = finish_of (graph_in s) (times_of e) }))) (Finished F) → Ran s e m F
        roomed true b h = absurd (let c : ◌≡◌ {A = ℕ} 0 1 = cc in omega arith)
        roomed false b h =
            let p : ◌≡◌ {A = Ticks} (record { 0 = finish_of (graph_in s) (times_of e) }) F = cc in
            record { is_accepted = ok; fit = q; room = ltb-false m (read_of s).graph.n b; finish = sym (ap (λ (t : Ticks). t.0) p) }
    beside ok (Err r) q h = absurd (let c : ◌≡◌ {A = ℕ} 0 1 = cc in omega arith)

    after : (a : Answer) → (read_of s).answer ≡ a → play_after a (read_of s).graph e m ≡ Finished F → Ran s e m F
    after (Ok _) q h = beside q (judge_times (read_of s).graph e) refl h
    after (Err y) q h = absurd (let c : ◌≡◌ {A = ℕ} 0 1 = cc in omega arith)

-- the finish instants stand in the first N places, and the rest is kept
pub run_lent : (s e old : List ℕ) (F : Ticks) → Bytes s → play_of s e (length old) ≡ Finished F → RunLent s e old (finishes_of s e old) F.0
run_lent s e old F bytes h =
    let R = finish-told s e (length old) F h in
    let n = (read_of s).graph.n in
    let f = finish_at (graph_in s) (times_of e) in
    let new : finishes_of s e old ≡ table f n ++ drop n old = unfold finishes_of in rw h refl in
    let long : length (table f n) ≡ n = table-length f n in
    rw new (record {
      finish = rw R.finish (finish-is s bytes R.is_accepted e R.fit);
      instants = λ v l. rw (get_or-append (table f n) (drop n old) 0 v (omega arith) ∙ table_at f n v l) (finishes-are s bytes R.is_accepted e R.fit v l);
      as_long = omega (arith, length-append (table f n) (drop n old), length-drop n old, R.room);
      kept = kept-past (table f n) old long;
    })
