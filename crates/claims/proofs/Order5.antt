-- Order 5, "Late or not": "with these execution times, does the list schedule end by tick d?"
--
-- Said over the contract of the entry `late` (specs/Entries), beside what `run` and `bounds` give for the same file and times.
use Rattle.std.specs.Prelude.{Ok, Err}
use mathlib.Core.Path.{◌≡◌, refl, sym, ap, ◌∙◌}
use mathlib.Core.Bool.{true, false}
use mathlib.Core.Logic.{◌↔◌}
use mathlib.Core.List.{List}
use Prim.Native.Nat.{ℕ, ◌/◌, ◌≤◌, ◌<◌, min}
use native.Mathlib.Omega.{arith}
use lib.Dec.{leb}
use borrow.Author.Tests.{leb-true, le-leb, lt-leb}
use Rattle.model.specs.Bounds.{PARTS, NewB1}
use Rattle.model.specs.ListSchedule.{begin, steps}
use Rattle.model.proofs.Longest.{new_b_1_unique}
use Rattle.graph.specs.Model.{as_model}
use Rattle.graph.specs.Judge.{read_of}
use Rattle.graph.specs.declared.Refusal.{Refusal}
use Rattle.graph.specs.Answer.{Taken}
use Rattle.graph.specs.Answer.{Answer}
use Rattle.graph.specs.Answer.{Accepted, Refused}
use Rattle.graph.proofs.Accepted as reader
use Rattle.units.specs.declared.Ticks.{Ticks}
use Rattle.tick.specs.declared.Run.{Run}
use Rattle.tick.specs.Run.{left_of, record_for}
use Rattle.times.specs.Times.{times_of, judge_times}
use Rattle.times.proofs.Fits.{times_fit, none_past}
use Rattle.leaps.specs.Finishes.{finish_of}
use Rattle.leaps.specs.Leaps.{until_of}
use Rattle.leaps.proofs.Finishes.{finish-below-new}
use Rattle.leaps.proofs.Instants.{left-start, fresh_start}
use Rattle.bounds.specs.Bounded.{Bounded}
use Rattle.schedule.specs.Played.{Finish as Finished}
use Rattle.late.specs.Answers.{Told, Nothing, Beside, judged_after, judged_of, LateOf}
use Rattle.late.specs.Lateness.{Lateness}
use Rattle.late.proofs.Unique.{late_unique}
use Rattle.codes.specs.CodedRun.{coded_late_of}
use Rattle.codes.specs.declared.PlannerLate.{PlannerLate}
use Rattle.claims.specs.Claims.{Bytes, IsAccepted, graph_in, run_at}
use Rattle.claims.specs.Entries.{ReadGives, BoundsGives, RunGives, LateGives, UntilGives, PlannerLateGives}
use Rattle.claims.proofs.Entries.{read-given, bounds-given, run-given, late-given, planner_late-given}
use Rattle.claims.proofs.Demand2.{bounds-are}
use Rattle.claims.proofs.Running.{finish-told}

-- an accepted file, and times that fit it
record Fine (s e : List ℕ) : Type 0 where
  pub taken : IsAccepted s
  pub fit : judge_times (read_of s).graph e ≡ Accepted

fine-judged : (s e : List ℕ) → judged_of s e ≡ Accepted → Fine s e
unfolding judged_of
fine-judged s e j = go (read_of s).answer refl j
  where
    go : (a : Answer) → (read_of s).answer ≡ a → judged_after a (read_of s).graph e ≡ Accepted → Fine s e
    go (Ok _) q j = record { taken = q; fit = j }
    go (Err x) q j = absurd (let z : ◌≡◌ {A = ℕ} 0 1 = cc in omega arith)

-- ---- yes or no, and the ticks played

module _ {s e : List ℕ} {d : ℕ} {r : Lateness} (L : LateGives s e d r) (ok : r.answer ≡ Accepted) where
  judged : judged_of s e ≡ Accepted
  judged = sym (late-given L).answer ∙ ok

  told : Told (graph_in s) (times_of e) d r
  told = rw judged at (late-given L).said

  whole : {b : Bounded} → BoundsGives s b → b.ticks.0 ≡ told.new / PARTS
  whole {b} B =
      let F = bounds-are B ((bounds-given B).answer ∙ (fine-judged s e judged).taken) in
      F.ticks ∙ ap (λ (x : ℕ). x / PARTS) (new_b_1_unique b.new.0 told.new F.new told.is_new)

  -- THEOREM. Yes exactly where `run`, on the same file and times, gives a finish at most d.
  pub late-yes : {old new : List ℕ} {F : Ticks} → RunGives s e old (Finished F) new → (r.yes ≡ true) ↔ (F.0 ≤ d)
  late-yes {F = F} R =
      let T = finish-told s e _ F (sym (run-given R).0) in
      rw (T.finish, told.yes) (leb-true (finish_of (graph_in s) (times_of e)) d, le-leb (finish_of (graph_in s) (times_of e)) d)

  -- THEOREM. No tick is played where NEW-B-1's whole ticks, as `bounds` gives them, are at most d; otherwise as many as the smaller of d and the
  -- finish that `run` gives.
  pub none-played : {b : Bounded} → BoundsGives s b → b.ticks.0 ≤ d → r.played.0 ≡ 0
  none-played {b} B l = told.played ∙ rw (le-leb (told.new / PARTS) d (rw (whole B) at l)) refl

  pub some-played : {b : Bounded} {old new : List ℕ} {F : Ticks} → BoundsGives s b → RunGives s e old (Finished F) new → d < b.ticks.0 → r.played.0 ≡ min d F.0
  some-played {F = F} B R l =
      let T = finish-told s e _ F (sym (run-given R).0) in
      told.played ∙ rw (lt-leb (told.new / PARTS) d (rw (whole B) at l), T.finish) refl

  module _ (bytes : Bytes s) where
    -- THEOREM. Where none is played the answer is yes: this is demand 3.
    pub yes_unplayed : {b : Bounded} → BoundsGives s b → b.ticks.0 ≤ d → r.yes ≡ true
    unfolding as_model
    yes_unplayed {b} B l =
        let f = fine-judged s e judged in
        let A = reader.taken s bytes f.taken in
        let h = finish-below-new A.well_formed A.acyclic (times_of e) (times_fit (read_of s).graph e f.fit).short told.new told.is_new in
        told.yes ∙ le-leb (finish_of (graph_in s) (times_of e)) d (omega (arith, h, whole B))

    -- THEOREM. The count is the instant of the record that was played: from the record at instant 0, a run up to tick d hands back the list
    -- schedule's record at just that instant.
    pub played-record : {b : Bounded} → BoundsGives s b → d < b.ticks.0 → {x : Run} → UntilGives (read_of s).graph (run_at s e 0) d x
        → (x ≡ run_at s e r.played.0) × (x.instant ≡ r.played.0)
    unfolding until_of steps record_for
    played-record {b} B l {x = x} U =
        let f = fine-judged s e judged in
        let A = reader.taken s bytes f.taken in
        let i = U.as_seen in
        let p : r.played.0 ≡ min d (finish_of (graph_in s) (times_of e)) = told.played ∙ rw (lt-leb (told.new / PARTS) d (rw (whole B) at l)) refl in
        let fit = times_fit (read_of s).graph e f.fit in
        let past = none_past (read_of s).graph e fit in
        let fresh = fresh_start (read_of s).graph A (times_of e) past fit.short in
        let q : x ≡ until_of (read_of s).graph (left_of (run_at s e 0)) d = rw (i.1, i.2, i.3) at (U.ensured (read_of s).graph i.0 (rw i.1 fresh)) in
        let t = left-start (read_of s).graph A (times_of e) past in
        let z : x ≡ run_at s e r.played.0 = q ∙ rw (t, p) refl in
        (z, ap (λ (y : Run). y.instant) z)

-- ---- the refusals: those of a run, without 15

nothing-beside : {s e : List ℕ} {d : ℕ} {x : Refusal} {r : Lateness} → LateOf s e d r → judged_of s e ≡ Refused x → (r.answer ≡ Refused x) × (r.yes ≡ false) × (r.played.0 ≡ 0)
nothing-beside {s} {e} {d} {x} {r} L j = let n : Nothing r = rw j at L.said in (L.answer ∙ j, n.yes, n.played)

-- THEOREM. Of a file that the reader refuses, `late` says no as the reader does; beside it stand no, and 0.
pub late-first : {s e : List ℕ} {t : Taken} {d : ℕ} {x : Refusal} {r : Lateness} → ReadGives s t → t.answer ≡ Refused x → LateGives s e d r
    → (r.answer ≡ Refused x) × (r.yes ≡ false) × (r.played.0 ≡ 0)
unfolding judged_of
late-first R said L =
    nothing-beside (late-given L) (let a = sym (ap (λ (t : Taken). t.answer) (read-given R)) ∙ said in rw a refl)

-- THEOREM. Of an accepted file, what the times are refused with: 13, then 14 at the first that is too long. Nothing else is refused.
pub late-times : {s e : List ℕ} {t : Taken} {d : ℕ} {x : Refusal} {r : Lateness} → ReadGives s t → t.answer ≡ Accepted → judge_times t.graph e ≡ Refused x → LateGives s e d r
    → (r.answer ≡ Refused x) × (r.yes ≡ false) × (r.played.0 ≡ 0)
unfolding judged_of
late-times {e = e} R ok j L =
    nothing-beside (late-given L)
    (let a = sym (ap (λ (t : Taken). t.answer) (read-given R)) ∙ ok in rw a (rw (ap (λ (t : Taken). t.graph) (read-given R)) at j))

pub late_answers : {s e : List ℕ} {t : Taken} {d : ℕ} {r : Lateness} → ReadGives s t → t.answer ≡ Accepted → judge_times t.graph e ≡ Accepted → LateGives s e d r → r.answer ≡ Accepted
unfolding judged_of
late_answers R ok j L =
    (late-given L).answer
    ∙ (let a = sym (ap (λ (t : Taken). t.answer) (read-given R)) ∙ ok in rw a (rw (ap (λ (t : Taken). t.graph) (read-given R)) at j))

-- ---- for C and Rust

-- THEOREM. The entry for C gives what this gives, in numbers: yes is 1, no is 0.
pub planner_late-is : {s e : List ℕ} {d : ℕ} {p : PlannerLate} {r : Lateness} → PlannerLateGives s e d p → LateGives s e d r → p ≡ coded_late_of r
planner_late-is {r = r} q h =
    let c = planner_late-given q in c.coded ∙ ap coded_late_of (late_unique _ _ _ c.told r c.of (late-given h))
