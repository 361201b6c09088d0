-- From what the reader says of a file, and from what was found for its graph, to the entries' answers.
use Rattle.std.specs.Prelude.{Result, Ok, Err}
use mathlib.Core.Path.{◌≡◌, refl, sym, ap, ◌∙◌}
use mathlib.Core.List.{List}
use Prim.Native.Nat.{ℕ, ◌≤◌}
use lib.ListN.{get_or, length}
use borrow.Author.Tests.{le-ltb}
use Rattle.model.specs.Places.{table}
use Rattle.model.specs.ListSchedule.{begin}
use Rattle.model.proofs.Tables.{padded-at}
use Rattle.graph.specs.Model.{as_model, AcceptedGraph}
use Rattle.graph.specs.Judge.{read_of}
use Rattle.graph.specs.declared.Graph.{Graph}
use Rattle.graph.specs.declared.Refusal.{Refusal}
use Rattle.graph.specs.Answer.{Answer}
use Rattle.graph.specs.Answer.{Accepted, Refused}
use Rattle.graph.specs.Answer.{Taken}
use Rattle.tick.specs.declared.Run.{Run}
use Rattle.tick.specs.Report.{Refused as NoTick}
use Rattle.tick.specs.Run.{left_of, record_for}
use Rattle.remains.specs.Remains.{place}
use Rattle.model.proofs.Turns.{table_ext}
use Rattle.times.specs.Times.{times_of, judge_times, Fitting}
use Rattle.schedule.specs.Start.{Started, started, refused_start_of, started_on, start_of}
use Rattle.schedule.specs.Tick.{tick_on_of, tick_of}
use Rattle.schedule.specs.Whole.{play_in, play_on_of, play_of, filled_beside, finishes_of}
use Rattle.leaps.specs.Finishes.{finish_at, finish_of}
use Rattle.leaps.specs.Leaps.{Fresh, end_of}
use Rattle.leaps.specs.declared.Ended.{Ended}
use Rattle.leaps.proofs.Instants.{left-start, fresh_start}
use Rattle.times.proofs.Fits.{none_past}
use Rattle.schedule.specs.Played.{Played}
use Rattle.schedule.specs.Played.{Finish, Refused as NoPlay}

module _ (s : List ℕ) (t : Taken) (e : t ≡ read_of s) where
  answered : (a : Answer) → t.answer ≡ a → (read_of s).answer ≡ a
  answered a p = sym (ap (λ (x : Taken). x.answer) e) ∙ p

  pub start-accepted : t.answer ≡ Accepted → (l : List ℕ) → start_of s l ≡ started_on t.graph l
  unfolding start_of
  start-accepted p l = rw (answered Accepted p, e) refl

  pub start-refused : (r : Refusal) → t.answer ≡ Refused r → (l : List ℕ) → start_of s l ≡ refused_start_of r
  unfolding start_of
  start-refused r p l = rw (answered (Refused r) p) refl

  pub tick-accepted : t.answer ≡ Accepted → (r : Run) → tick_of s r ≡ tick_on_of t.graph r
  unfolding tick_of
  tick-accepted p r = rw (answered Accepted p, e) refl

  pub tick-refused : (x : Refusal) → t.answer ≡ Refused x → (r : Run) → tick_of s r ≡ record { report = NoTick x; run = r }
  unfolding tick_of
  tick-refused x p r = rw (answered (Refused x) p) refl

  -- a whole run: what is returned, and what the lent list holds
  pub play-accepted : t.answer ≡ Accepted → (l old new : List ℕ) (r : Played) → r ≡ play_on_of t.graph l (length old) → new ≡ filled_beside r t.graph l old
      → (r ≡ play_of s l (length old)) × (new ≡ finishes_of s l old)
  unfolding play_of finishes_of
  play-accepted p l old new r a b =
      let q : play_of s l (length old) ≡ r = rw (answered Accepted p, ← e) (sym a) in
      (sym q, rw (q, ← e) b)

  pub play-refused : (x : Refusal) → t.answer ≡ Refused x → (l old : List ℕ) → (◌≡◌ {A = Played} (NoPlay x) (play_of s l (length old))) × (old ≡ finishes_of s l old)
  unfolding play_of finishes_of
  play-refused x p l old = let q : play_of s l (length old) ≡ NoPlay x = rw (answered (Refused x) p) refl in (sym q, rw q refl)

-- ---- from the times on

module _ (g : Graph) (l : List ℕ) where
  pub started-refused : (x : Refusal) → judge_times g l ≡ Refused x → started_on g l ≡ refused_start_of x
  unfolding started_on
  started-refused x p = rw p refl

  pub played-accepted : judge_times g l ≡ Accepted → (m : ℕ) → play_on_of g l m ≡ play_in g l m
  unfolding play_on_of
  played-accepted p m = rw p refl

  pub played-refused : (x : Refusal) → judge_times g l ≡ Refused x → (m : ℕ) → play_on_of g l m ≡ NoPlay x
  unfolding play_on_of
  played-refused x p m = rw p refl

  module _ (A : AcceptedGraph g) (fit : Fitting g l) where
    abbrev begun : Run
    begun = record_for (as_model g) 0 (begin (times_of l))

    times-begun : left_of begun ≡ times_of l
    times-begun = left-start g A (times_of l) (none_past g l fit)

    pub fresh-begun : Fresh g begun
    fresh-begun = fresh_start g A (times_of l) (none_past g l fit) fit.short

    -- the end of a whole run, as the answer and as the list that is handed over
    module _ (run : Run) (r : Ended) (is-begun : run ≡ begun) (ends : r ≡ end_of g (left_of run)) where
      ended : r ≡ end_of g (times_of l)
      ended = ends ∙ ap (end_of g) (ap left_of is-begun ∙ times-begun)

      pub finish-played : (m : ℕ) → g.n ≤ m → ◌≡◌ {A = Played} (Finish (record { 0 = r.instant })) (play_in g l m)
      unfolding play_in end_of
      finish-played m h = rw (le-ltb m g.n h) (ap {B = Played} (λ (x : Ended). Finish (record { 0 = x.instant })) ended)

      pub handed_over : table (place r.finishes) g.n ≡ table (finish_at (as_model g) (times_of l)) g.n
      unfolding end_of
      handed_over =
          table_ext (place r.finishes) (finish_at (as_model g) (times_of l)) g.n
          (λ v h. ap (λ (x : Ended). get_or x.finishes v 0) ended ∙ padded-at 128 (finish_at (as_model g) (times_of l)) g.n v h)

-- ---- a whole run

module _ (s : List ℕ) (ok : (read_of s).answer ≡ Accepted) (e : List ℕ) (fit : judge_times (read_of s).graph e ≡ Accepted) where
  -- THEOREM. With room for N places or more, a whole run returns the finish.
  pub run_returns : (room : ℕ) → (read_of s).graph.n ≤ room → play_of s e room ≡ Finish (record { 0 = finish_of (as_model (read_of s).graph) (times_of e) })
  unfolding play_of play_on_of play_in
  run_returns room h = rw (ok, fit, le-ltb room (read_of s).graph.n h) refl

-- what `start` gives is told by its answer and the record beside it
pub started-one : (x y : Result Run Refusal) → started x ≡ started y → x ≡ y
started-one (Ok r) (Ok q) e = ap (λ (t : Started). Ok t.run) e
started-one (Ok r) (Err x) e = let z : Accepted ≡ Refused x = ap (λ (t : Started). t.answer) e in cc
started-one (Err x) (Ok r) e = let z : Refused x ≡ Accepted = ap (λ (t : Started). t.answer) e in cc
started-one (Err x) (Err y) e = let z : Refused x ≡ Refused y = ap (λ (t : Started). t.answer) e in cc
