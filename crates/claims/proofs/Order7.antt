-- Order 7, "Replay a recorded frame": "Accept exactly the logs that are work-conserving schedules of the graph, hand back finish and times, and
-- show that demand 3 covers each one accepted."
--
-- Said over the contracts of the entries `replay` and `log` (specs/Entries). `schedule_of l` is the schedule that the log l records: who runs in
-- which tick, and each vertex's total as its time (`recorded`, specs/Recorded).
use Rattle.std.specs.Prelude.{Ok, Err}
use mathlib.Core.Path.{◌≡◌, refl, sym, ap, ◌∙◌}
use mathlib.Core.Bool.{Bool, true, false}
use mathlib.Core.Logic.{◌↔◌, ◌⊎◌}
use mathlib.Core.List.{List, [], ◌++◌}
use Prim.Native.Nat.{ℕ, ◌*◌, ◌≤◌, ◌<◌}
use native.Mathlib.Omega.{arith}
use lib.ListN.{get_or, length, drop, take, length-append, get_or-append, length-drop}
use lib.Seq.{take_at}
use lib.Dec.{ltb}
use borrow.Author.Tests.{lt-ltb, le-ltb}
use Rattle.model.specs.Places.{pick, table}
use Rattle.model.specs.Graph.{Graph, WellFormed}
use Rattle.model.specs.Cycle.{Acyclic}
use Rattle.model.specs.Bounds.{PARTS}
use Rattle.model.specs.Schedule.{left, Times, WorkConserving, EndsBy, Finish}
use Rattle.model.specs.ListSchedule.{list_schedule}
use Rattle.model.proofs.Cycles.{ranked}
use Rattle.model.proofs.Finished.{ancestor_fin, finish_unique}
use Rattle.model.proofs.Tables.{table-length, table_at}
use Rattle.graph.specs.File.{records}
use Rattle.graph.specs.Judge.{read_of}
use Rattle.graph.specs.Model.{as_model}
use Rattle.graph.specs.declared.Refusal.{Refusal}
use Rattle.graph.specs.Answer.{Taken}
use Rattle.graph.specs.Answer.{Answer}
use Rattle.graph.specs.Answer as answers
use Rattle.graph.proofs.Accepted as reader
use Rattle.units.specs.declared.Ticks.{Ticks}
use Rattle.recorded.specs.Log.{InForm, wrong_length_of, fault, unended}
use Rattle.recorded.specs.Recorded.{last_instant, total, schedule_of, finish_in_of}
use Rattle.recorded.specs.Rules.{rule19, rule20, rule21, rule22, Passes}
use Rattle.recorded.specs.LogOf.{log_of}
use Rattle.recorded.specs.Judge.{First, Rightly}
use Rattle.recorded.proofs.Empty.{empty-times}
use Rattle.recorded.proofs.Saying.{says_18, says_19, says_20, says_21, says_22, says_15, says-one}
use Rattle.bounds.specs.Bounded.{Bounded}
use Rattle.second.specs.Seconded.{Seconded}
use Rattle.replay.specs.Answers.{replay_of, times_after_of}
use Rattle.replay.specs.Replayed.{Replayed}
use Rattle.replay.specs.Replayed.{Finish as Finishes, Refused}
use Rattle.replay.proofs.Accepting.{accepts, accepted, refused, replay-ends_by, replay-ends_by_second as ends-second, replay-first, times-kept, times-given}
use Rattle.replay.proofs.ListReplay.{empty-replay, list-replay, list-replay-times}
use Rattle.writer.specs.Write.{wrote_by}
use Rattle.writer.specs.Wrote.{Wrote}
use Rattle.writer.specs.Wrote.{Bytes as Written, Refused as NotWritten}
use Rattle.times.specs.Times.{times_of, judge_times}
use Rattle.times.proofs.Fits.{times_fit}
use Rattle.leaps.specs.Finishes.{finish_of}
use Rattle.schedule.specs.Played.{Finish as Finished}
use Rattle.logs.proofs.Room.{log-short}
use Rattle.logs.specs.Answers.{log_for, logged_on, logged_after, logged_of, log_room}
use Rattle.codes.specs.Coded.{coded_wrote_of}
use Rattle.codes.specs.CodedRun.{coded_replay_of}
use Rattle.codes.specs.declared.PlannerCount.{PlannerCount}
use Rattle.codes.specs.declared.PlannerFinish.{PlannerFinish}
use Rattle.claims.specs.Claims.{Bytes, IsAccepted, graph_in, at_0, TimesLent}
use Rattle.claims.specs.Entries.{ReadGives, BoundsGives, SecondGives, RunGives, ReplayGives, LogGives, PlannerReplayGives, PlannerLogGives}
use Rattle.claims.proofs.Entries.{read-given, bounds-given, run-given, replay-given, log-given, planner_replay-given, planner_log-given}
use Rattle.claims.proofs.Demand2.{bounds-are, run_is}
use Rattle.claims.proofs.Running.{finish-told}
use Rattle.claims.proofs.Lent.{kept-past}
use Rattle.claims.proofs.Order4.{second_is}

-- ---- which logs are accepted, and what is handed back

module _ {s l old new : List ℕ} {r : Replayed} (R : ReplayGives s l old r new) (bytes : Bytes s) (ok : IsAccepted s) where
  -- THEOREM. A log is accepted exactly where it is in form, the schedule that it records is work conserving, with times at most the WCETs, and the
  -- list has a place for each vertex.
  pub replayed_exactly : ((F : Ticks) × (r ≡ Finishes F))
      ↔ (InForm (graph_in s).n l × WorkConserving (graph_in s) (schedule_of l) × Times (graph_in s) (schedule_of l).time × ((graph_in s).n ≤ length old))
  replayed_exactly = (there, back)
    where
      there : (F : Ticks) × (r ≡ Finishes F) → InForm (graph_in s).n l × WorkConserving (graph_in s) (schedule_of l) × Times (graph_in s) (schedule_of l).time × ((graph_in s).n ≤ length old)
      there (F, e) =
          let a = accepted s bytes ok l (length old) F.0 (sym (replay-given R).0 ∙ e) in (a.is.in_form, a.is.conserving, a.is.in_time, a.room-enough)

      back : InForm (graph_in s).n l × WorkConserving (graph_in s) (schedule_of l) × Times (graph_in s) (schedule_of l).time × ((graph_in s).n ≤ length old) → (F : Ticks) × (r ≡ Finishes F)
      back (f, c, t, m) =
          (record { 0 = finish_in_of (graph_in s) l }, (replay-given R).0 ∙ accepts s bytes ok l (length old) (record { in_form = f; conserving = c; in_time = t }) m)

  module _ {F : Ticks} (e : r ≡ Finishes F) where
    given : replay_of s l (length old) ≡ Finishes (record { 0 = F.0 })
    given = sym (replay-given R).0 ∙ e

    -- THEOREM. The finish is that of the schedule, and the list has its times.
    pub replay-finish : Finish (graph_in s) (schedule_of l) F.0
    replay-finish = (accepted s bytes ok l (length old) F.0 given).finish

    pub replay-times : TimesLent s l old new
    unfolding as_model schedule_of
    replay-times =
        let n = (read_of s).graph.n in
        let z : new ≡ table (total l) n ++ drop n old = (replay-given R).1 ∙ times-given s l old F.0 given in
        let long : length (table (total l) n) ≡ n = table-length (total l) n in
        let m : n ≤ length old = (accepted s bytes ok l (length old) F.0 given).room-enough in
        rw z (record {
          times = λ v h. get_or-append (table (total l) n) (drop n old) 0 v (omega arith) ∙ table_at (total l) n v h;
          as_long = omega (arith, length-append (table (total l) n) (drop n old), length-drop n old);
          kept = kept-past (table (total l) n) old long;
        })

    -- THEOREM. Demand 3 covers every log that is accepted: it ends by the NEW-B-1 that `bounds` gives, and by the NEW-B-2 that `second` gives where
    -- the graph gets it; and so does the finish that is handed back, in parts and in whole ticks.
    pub replay-ends_by_new : {b : Bounded} → BoundsGives s b
        → EndsBy (graph_in s) (schedule_of l) b.new.0 × (F.0 * PARTS ≤ b.new.0) × (F.0 ≤ b.ticks.0)
    replay-ends_by_new {b} B =
        let N = bounds-are B ((bounds-given B).answer ∙ ok) in
        let E = replay-ends_by s bytes ok l (length old) F.0 given b.new.0 N.new in
        let m = E.within F.0 replay-finish in
        (E, m, omega (arith, m, N.ticks))

    pub replay-ends_by_second : {x : Seconded} → SecondGives s x → x.answer ≡ answers.Accepted
        → EndsBy (graph_in s) (schedule_of l) x.parts.0 × (F.0 * PARTS ≤ x.parts.0)
    replay-ends_by_second {x} S a =
        let E = ends-second s bytes ok l (length old) F.0 given x.parts.0 (second_is S a).0 in (E, E.within F.0 replay-finish)

  -- ---- what is refused: each number, with its place, and what comes before it in the order is fine

  module _ {x : Refusal} (e : r ≡ Refused x) where
    right : Rightly (graph_in s) l (length old) x
    right = refused s bytes ok l (length old) x (sym (replay-given R).0 ∙ e)

    -- THEOREM. 18 is said of a wrong length, at 0; else of the first record at fault; else, at 0, where a vertex is still running at the end.
    pub said_18 : x.number ≡ 18 → ((wrong_length_of l ≡ true) × (x.place ≡ 0))
        ⊎ (((wrong_length_of l ≡ false) × First (fault (graph_in s).n l) (records l) x.place)
        ⊎ ((wrong_length_of l ≡ false) × ((k : ℕ) → k < records l → fault (graph_in s).n l k ≡ false) × (unended (graph_in s).n l ≡ true) × (x.place ≡ 0)))
    said_18 = says_18 (graph_in s) l (length old) x right

    -- THEOREM. 19 has the first start before a predecessor finished, 20 the first at which there are more than cores.
    pub said_19 : x.number ≡ 19 → InForm (graph_in s).n l × First (rule19 (graph_in s) l) (records l) x.place
    said_19 = says_19 (graph_in s) l (length old) x right

    pub said_20 : x.number ≡ 20 → InForm (graph_in s).n l × ((k : ℕ) → k < records l → rule19 (graph_in s) l k ≡ false) × First (rule20 (graph_in s) l) (records l) x.place
    said_20 = says_20 (graph_in s) l (length old) x right

    -- THEOREM. 21 has the first vertex whose total is above its WCET, 22 the first instant at which a core is idle while a ready vertex of its type
    -- waits.
    pub said_21 : x.number ≡ 21 → InForm (graph_in s).n l × ((k : ℕ) → k < records l → (rule19 (graph_in s) l k ≡ false) × (rule20 (graph_in s) l k ≡ false))
        × First (rule21 (graph_in s) l) (graph_in s).n x.place
    said_21 = says_21 (graph_in s) l (length old) x right

    pub said_22 : x.number ≡ 22 → InForm (graph_in s).n l × ((k : ℕ) → k < records l → (rule19 (graph_in s) l k ≡ false) × (rule20 (graph_in s) l k ≡ false))
        × ((v : ℕ) → v < (graph_in s).n → rule21 (graph_in s) l v ≡ false) × First (rule22 (graph_in s) l) (last_instant l) x.place
    said_22 = says_22 (graph_in s) l (length old) x right

    -- THEOREM. 15 comes last, at 0: the log is in form and passes 19 to 22, and the list is too short. There is no other number.
    pub said_15 : x.number ≡ 15 → InForm (graph_in s).n l × Passes (graph_in s) l × (length old < (graph_in s).n) × (x.place ≡ 0)
    said_15 = says_15 (graph_in s) l (length old) x right

    pub said-one : (x.number ≡ 15) ⊎ ((18 ≤ x.number) × (x.number ≤ 22))
    said-one = says-one (graph_in s) l (length old) x right

    -- THEOREM. A refusal leaves the list as it was.
    pub refused-keeps : new ≡ old
    refused-keeps = (replay-given R).1 ∙ times-kept s l old x (sym (replay-given R).0 ∙ e)

-- THEOREM. Of a file that the reader refuses, `replay` says no as the reader does, whatever the log, and leaves the list.
pub replay-refused-file : {s l old new : List ℕ} {t : Taken} {x : Refusal} {r : Replayed} → ReadGives s t → t.answer ≡ answers.Refused x → ReplayGives s l old r new
    → (r ≡ Refused x) × (new ≡ old)
replay-refused-file {s} {l} {old} {x = x} T said R =
    let a = replay-first s l (length old) x (sym (ap (λ (t : Taken). t.answer) (read-given T)) ∙ said) in
    ((replay-given R).0 ∙ a, (replay-given R).1 ∙ times-kept s l old x a)

-- where no vertex takes any time, all are finished at once
finished-at_0 : {G : Graph} → WellFormed G → Acyclic G → (c : ℕ → ℕ) → ((v : ℕ) → c v ≡ 0) → Finish G (list_schedule G c) 0
unfolding left list_schedule
finished-at_0 {G} w a c none = record {
  all = λ v h. ancestor_fin w (left (list_schedule G c) 0) (ranked w a) v (none v) (λ u x. none u);
  first = λ t h. absurd (omega arith);
}

-- THEOREM. An empty log is the run with all times 0: it is accepted with the finish of that run, which is 0, and each time is 0.
pub empty-replayed : {s old new e old' new' : List ℕ} {r : Replayed} {F : Ticks} → Bytes s → IsAccepted s → ReplayGives s [] old r new → (graph_in s).n ≤ length old
    → ((v : ℕ) → times_of e v ≡ 0) → RunGives s e old' (Finished F) new' → (r ≡ Finishes F) × (F.0 ≡ 0) × ((v : ℕ) → v < (graph_in s).n → get_or new v 0 ≡ 0)
unfolding as_model schedule_of
empty-replayed {s} {old} {e = e} {F = F} bytes ok R m none W =
    let A = reader.taken s bytes ok in
    let z : F.0 ≡ 0 = finish_unique F.0 0 (run_is bytes W).finish (finished-at_0 A.well_formed A.acyclic (times_of e) none) in
    let q = (replay-given R).0 ∙ empty-replay s bytes ok (length old) m ∙ ap (λ (x : ℕ). Finishes (record { 0 = x })) (sym z) in
    (q, z, λ v l. (replay-times R bytes ok q).times v l ∙ empty-times v)

-- ---- the log of a run

-- where `log` answers with a length
record Logged (s e : List ℕ) (room k : ℕ) : Type 0 where
  pub taken : IsAccepted s
  pub fit : judge_times (read_of s).graph e ≡ answers.Accepted
  pub size : k ≡ length (log_of (graph_in s) (times_of e))

logged-told : (s e : List ℕ) (room k : ℕ) → logged_of s e room ≡ Written k → Logged s e room k
unfolding logged_of logged_on log_for
logged-told s e room k h = after (read_of s).answer refl h
  where
    roomed : IsAccepted s → judge_times (read_of s).graph e ≡ answers.Accepted → (b : Bool)
        → ◌≡◌ {A = Wrote} (pick b (NotWritten (record { number = 15; place = 0 })) (Written (length (log_of (graph_in s) (times_of e))))) (Written k) → Logged s e room k
    roomed ok q true h = absurd (let c : ◌≡◌ {A = ℕ} 0 1 = cc in omega arith)
    roomed ok q false h = let z : length (log_of (graph_in s) (times_of e)) ≡ k = cc in record { taken = ok; fit = q; size = sym z }

    beside : IsAccepted s → (a : Answer) → judge_times (read_of s).graph e ≡ a → wrote_by a (length (log_of (graph_in s) (times_of e))) room ≡ Written k → Logged s e room k
    beside ok (Ok _) q h = roomed ok q (ltb room (length (log_of (graph_in s) (times_of e)))) h
    beside ok (Err x) q h = absurd (let c : ◌≡◌ {A = ℕ} 0 1 = cc in omega arith)

    after : (a : Answer) → (read_of s).answer ≡ a → logged_after a (read_of s).graph e room ≡ Written k → Logged s e room k
    after (Ok _) q h = beside q (judge_times (read_of s).graph e) refl h
    after (Err x) q h = absurd (let c : ◌≡◌ {A = ℕ} 0 1 = cc in omega arith)

module _ {s e old new : List ℕ} {k : ℕ} (L : LogGives s e old (Written k) new) where
  logged : Logged s e (length old) k
  logged = logged-told s e (length old) k (sym (log-given L).0)

  -- THEOREM. `log` writes the log of the list schedule with these times, and leaves the room past it.
  pub log-written : (k ≡ length (log_of (graph_in s) (times_of e))) × (new ≡ log_of (graph_in s) (times_of e) ++ drop k old)
  unfolding log_room log_for
  log-written = (logged.size, (log-given L).1 ∙ rw (sym (log-given L).0) refl)

  -- THEOREM. 2,048 bytes are always room enough for it.
  pub log-fits : Bytes s → k ≤ 2048
  unfolding log_for
  log-fits b = omega (arith, log-written.0, log-short s b logged.taken e logged.fit)

  -- THEOREM. That log is accepted, with the finish that `run` gives for the same times, and with these times.
  pub log-replayed : {old' new' old'' new'' : List ℕ} {F : Ticks} {r : Replayed} → Bytes s → ReplayGives s (take k new) old' r new' → (read_of s).graph.n ≤ length old'
      → RunGives s e old'' (Finished F) new'' → (r ≡ Finishes F) × (new' ≡ e ++ drop (read_of s).graph.n old')
  log-replayed {old' = old'} {F = F} bytes R m W =
      let f = times_fit (read_of s).graph e logged.fit in
      let t : take k new ≡ log_of (graph_in s) (times_of e) =
      ap (take k) log-written.1 ∙ take_at (log_of (graph_in s) (times_of e)) (drop k old) k (sym logged.size) in
      let z : F.0 ≡ finish_of (graph_in s) (times_of e) = (finish-told s e _ F (sym (run-given W).0)).finish in (
        (replay-given R).0
            ∙ ap (λ (l : List ℕ). replay_of s l (length old')) t
            ∙ list-replay s bytes logged.taken e f.as_many f.short (length old') m
            ∙ ap (λ (x : ℕ). Finishes (record { 0 = x })) (sym z),
        (replay-given R).1 ∙ ap (λ (l : List ℕ). times_after_of s l old') t ∙ list-replay-times s bytes logged.taken e f.as_many f.short old' m,
      )

-- THEOREM. The refusals of `log` are those of a run: the reader's first, then those of the times, 13 and 14; then 15 at 0 exactly where the room is
-- below the log's length. Each leaves the room.
pub log-first : {s e old new : List ℕ} {t : Taken} {x : Refusal} {w : Wrote} → ReadGives s t → t.answer ≡ answers.Refused x → LogGives s e old w new
    → (w ≡ NotWritten x) × (new ≡ old)
unfolding logged_of log_room
log-first {s} {x = x} T said L =
    let a : (read_of s).answer ≡ answers.Refused x = sym (ap (λ (t : Taken). t.answer) (read-given T)) ∙ said in
    ((log-given L).0 ∙ rw a refl, (log-given L).1 ∙ rw a refl)

module _ {s e old new : List ℕ} {w : Wrote} (ok : IsAccepted s) (L : LogGives s e old w new) where
  pub log_13_14 : {x : Refusal} → judge_times (read_of s).graph e ≡ answers.Refused x → (w ≡ NotWritten x) × (new ≡ old)
  unfolding logged_of logged_on log_room
  log_13_14 j = ((log-given L).0 ∙ rw (ok, j) refl, (log-given L).1 ∙ rw (ok, j) refl)

  pub log_15 : judge_times (read_of s).graph e ≡ answers.Accepted → length old < length (log_of (graph_in s) (times_of e)) → (w ≡ NotWritten (at_0 15)) × (new ≡ old)
  unfolding logged_of logged_on log_room log_for
  log_15 j m =
      let b = lt-ltb (length old) (length (log_of (graph_in s) (times_of e))) m in ((log-given L).0 ∙ rw (ok, j, b) refl, (log-given L).1 ∙ rw (ok, j, b) refl)

  pub log_answers : judge_times (read_of s).graph e ≡ answers.Accepted → length (log_of (graph_in s) (times_of e)) ≤ length old → w ≡ Written (length (log_of (graph_in s) (times_of e)))
  unfolding logged_of logged_on log_for
  log_answers j m = let b = le-ltb (length old) (length (log_of (graph_in s) (times_of e))) m in (log-given L).0 ∙ rw (ok, j, b) refl

-- ---- for C and Rust

-- THEOREM. The entries for C give what these give, in numbers.
pub planner_replay-is : {s l old new new' : List ℕ} {p : PlannerFinish} {r : Replayed} → PlannerReplayGives s l old p new → ReplayGives s l old r new' → (p ≡ coded_replay_of r) × (new ≡ new')
planner_replay-is q h =
    let a = planner_replay-given q in let b = replay-given h in (a.0 ∙ ap coded_replay_of (sym b.0), a.1 ∙ sym b.1)

pub planner_log-is : {s e old new new' : List ℕ} {p : PlannerCount} {w : Wrote} → PlannerLogGives s e old p new → LogGives s e old w new' → (p ≡ coded_wrote_of w) × (new ≡ new')
planner_log-is q h =
    let a = planner_log-given q in let b = log-given h in (a.0 ∙ ap coded_wrote_of (sym b.0), a.1 ∙ sym b.1)
