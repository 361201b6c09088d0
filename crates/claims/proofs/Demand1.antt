-- DEMAND 1. Every byte file or list handed in gets an answer. A malformed graph, a cycle, wrong execution times or a short buffer is
-- refused by number, and a refusal changes nothing that was lent.
--
-- That each entry answers every input is what its proof says: none of them has a `requires`, and each ends. What it answers is its
-- contract, and the statements here are over the contracts (`ReadGives` and the like, specs/Entries): which number and which place, and
-- that what was lent is as it was.
use mathlib.Core.Path.{◌≡◌, refl, sym, ap, ◌∙◌}
use mathlib.Core.Logic.{◌↔◌}
use mathlib.Core.List.{List}
use mathlib.Core.Bool.{Bool, true, false}
use Prim.Native.Nat.{ℕ, ◌≤◌, ◌<◌}
use native.Mathlib.Omega.{arith}
use lib.Dec.{ltb}
use lib.ListN.{length}
use borrow.Author.Tests.{lt-ltb}
use Rattle.model.specs.Places.{pick}
use Rattle.model.proofs.Bools.{clash}
use Rattle.graph.specs.Model.{AcceptedGraph}
use Rattle.graph.specs.Judge.{judge_from, read_of}
use Rattle.graph.specs.Said.{of_answer}
use Rattle.graph.specs.declared.Refusal.{Refusal}
use Rattle.graph.specs.declared.Graph.{Graph}
use Rattle.graph.specs.Answer.{Answer}
use Rattle.graph.specs.Answer.{Taken}
use Rattle.graph.specs.Answer.{Accepted, Refused}
use Rattle.graph.proofs.Accepted as reader
use Rattle.writer.specs.Lists.{Lists}
use Rattle.writer.specs.Write.{of_wrote}
use Rattle.writer.specs.Wrote.{Wrote}
use Rattle.writer.specs.Wrote.{Refused as NotWritten}
use Rattle.bounds.specs.Answers.{Nothing, BoundsOf, PathIn, narrow, found, PathOf, refused, accepted, of_pathed}
use Rattle.bounds.specs.Bounded.{Bounded}
use Rattle.bounds.specs.Pathed.{Pathed}
use Rattle.bounds.specs.Pathed.{Vertices, Refused as NoPath}
use Rattle.tick.specs.declared.Run.{Run}
use Rattle.tick.specs.declared.Ticked.{Ticked}
use Rattle.tick.specs.Report.{Report}
use Rattle.tick.specs.Report.{Moved, Done, Refused as NoTick}
use Rattle.tick.specs.Run.{over, ticked_of, of_report}
use Rattle.tick.specs.Suits.{suits, Suits}
use Rattle.tick.proofs.Suiting.{suits-sound, suits-complete}
use Rattle.times.specs.Times.{judge_times}
use Rattle.schedule.specs.Start.{no_run, refused_start_of, start_beside, started_on, start_after, start_of}
use Rattle.schedule.specs.Tick.{tick_on_of, tick_after, tick_of}
use Rattle.schedule.specs.Whole.{play_in, play_on_of, play_of, finishes_of, of_played}
use Rattle.schedule.specs.Start.{Started}
use Rattle.schedule.specs.Played.{Played}
use Rattle.schedule.specs.Played.{Refused as NoRun}
use Rattle.claims.specs.Claims.{Bytes, IsAccepted, drawn_in, at_0, NoneFrom, Closed, Answered, Sound, WriteAnswered}
use Rattle.claims.specs.Entries.{ReadGives, WriteGives, BoundsGives, PathGives, StartGives, TickGives, TickInPlaceGives, RunGives}
use Rattle.claims.proofs.Entries.{read-given, write-given, bounds-given, path-given, start-given, tick-given, tick_in_place-given, run-given}
use Rattle.claims.proofs.Judged.{read-answered, cycle-judged, sound-judged, write-answered}
use Rattle.claims.proofs.Numbers as numbers

-- ---- the reader and the writer

-- THEOREM. The reader accepts a file where no number of the table applies; else it gives the lowest that applies, with the first place that it
-- holds for, and a graph that is zero throughout.
pub read_answers : {s : List ℕ} {t : Taken} → ReadGives s t → Answered s t
read_answers {s} h = rw (read-given h) (read-answered s)

answer-of : {s : List ℕ} {t : Taken} → ReadGives s t → t.answer ≡ (read_of s).answer
answer-of h = ap (λ (t : Taken). t.answer) (read-given h)

-- THEOREM. A file is accepted exactly where no number up to 10 applies and its edges hold no cycle.
pub accepted_exactly : {s : List ℕ} {t : Taken} → Bytes s → ReadGives s t → (t.answer ≡ Accepted) ↔ Sound s
unfolding read_of
accepted_exactly {s} bytes h = rw (answer-of h) (sound-judged s bytes)

-- THEOREM. Number 11 is given exactly where no number below it applies and the edges hold a cycle, perhaps one that no source reaches.
pub cycle_exactly : {s : List ℕ} {t : Taken} → Bytes s → ReadGives s t → (t.answer ≡ Refused (at_0 11)) ↔ (NoneFrom 1 11 s × Closed (drawn_in s))
unfolding read_of
cycle_exactly {s} bytes h = rw (answer-of h) (cycle-judged s bytes)

-- THEOREM. The writer gives 13 where types and WCETs differ in length; then 4 to 11, the lowest that applies to the file that the lists would
-- give, with its first place there; then 15 where the room is shorter than that file. A refused write leaves the room as it was.
pub write_answers : {g : Lists} {old new : List ℕ} {w : Wrote} → WriteGives g old w new → WriteAnswered g old w new
write_answers {g} {old} h = let e = write-given h in rw (e.0, e.1) (write-answered g old)

-- ---- every other entry takes a file: the reader's number comes first, and what was lent is as it was

-- THEOREM. Of a file that the reader refuses with x, every entry says no with x.
module _ {s : List ℕ} {t : Taken} (R : ReadGives s t) {x : Refusal} (no : t.answer ≡ Refused x) where
  refused-file : (read_of s).answer ≡ Refused x
  refused-file = sym (answer-of R) ∙ no

  -- both bounds and the ticks are 0
  pub bounds-first : {b : Bounded} → BoundsGives s b → (b.answer ≡ Refused x) × Nothing b
  bounds-first h = let b = bounds-given h in (b.answer ∙ refused-file, rw refused-file at b.figures)

  pub path-first : {old new : List ℕ} {p : Pathed} → PathGives s old p new → (p ≡ NoPath x) × (new ≡ old)
  path-first h = go (path-given h)
    where
      go : {old new : List ℕ} {p : Pathed} → PathOf s old p new → (p ≡ NoPath x) × (new ≡ old)
      go (refused e) = (let q = refused-file in cc, refl)
      go (accepted e p) = absurd (let q = refused-file in let z : ◌≡◌ {A = ℕ} 0 1 = cc in omega arith)

  -- the record is zero and unmarked throughout
  pub start_first : {e : List ℕ} {r : Started} → StartGives s e r → r ≡ record { answer = Refused x; run = no_run }
  unfolding start_of
  start_first h = start-given h ∙ rw refused-file refl

  -- the record is the one that was given
  pub tick-first : {r : Run} {y : Ticked} → TickGives s r y → y ≡ record { report = NoTick x; run = r }
  unfolding tick_of
  tick-first h = tick-given h ∙ rw refused-file refl

  pub tick_in_place-first : {r r' : Run} {y : Report} → TickInPlaceGives s r y r' → ◌≡◌ {A = Ticked} (record { report = y; run = r' }) (record { report = NoTick x; run = r })
  unfolding tick_of
  tick_in_place-first h = tick_in_place-given h ∙ rw refused-file refl

  pub run-first : {e old new : List ℕ} {p : Played} → RunGives s e old p new → (p ≡ NoRun x) × (new ≡ old)
  unfolding play_of finishes_of
  run-first h = let e = run-given h in (e.0 ∙ rw refused-file refl, e.1 ∙ rw refused-file refl)

-- ---- then, of an accepted file: a path's 15, the times' 13 and 14, a record's 16, a run's 13, 14 and 15

module _ {s : List ℕ} {t : Taken} (R : ReadGives s t) (ok : t.answer ≡ Accepted) where
  taken-file : (read_of s).answer ≡ Accepted
  taken-file = sym (answer-of R) ∙ ok

  graph-of : t.graph ≡ (read_of s).graph
  graph-of = ap (λ (t : Taken). t.graph) (read-given R)

  -- THEOREM. A path says no exactly where the room is below N, with 15, and leaves the list as it was.
  pub path_15 : {old new : List ℕ} {p : Pathed} → PathGives s old p new → (p ≡ NoPath (at_0 15)) ↔ (length old < t.graph.n)
  path_15 {old} h = rw graph-of (go (path-given h))
    where
      go : {new : List ℕ} {p : Pathed} → PathOf s old p new → (p ≡ NoPath (at_0 15)) ↔ (length old < (read_of s).graph.n)
      go (refused e) = absurd (let q = taken-file in let z : ◌≡◌ {A = ℕ} 0 1 = cc in omega arith)
      go (accepted e (narrow l)) = (λ q. l, λ q. refl)
      go (accepted e (found l p)) = (λ q. absurd (let z : ◌≡◌ {A = ℕ} 0 1 = cc in omega arith), λ q. absurd (omega arith))

  pub path_leaves : {old new : List ℕ} {x : Refusal} → PathGives s old (NoPath x) new → (x ≡ at_0 15) × (new ≡ old)
  path_leaves {old} h = go (path-given h)
    where
      go : {new : List ℕ} {x : Refusal} → PathOf s old (NoPath x) new → (x ≡ at_0 15) × (new ≡ old)
      go (refused e) = absurd (let q = taken-file in let z : ◌≡◌ {A = ℕ} 0 1 = cc in omega arith)
      go (accepted e (narrow l)) = (refl, refl)

  -- THEOREM. A start says no exactly where the times are judged so: 13 where there are not N of them, else 14 at the first that is above its
  -- vertex's WCET. The record beside a refusal is zero and unmarked throughout.
  pub start_13_14 : {e : List ℕ} {r : Started} → StartGives s e r → r ≡ start_beside (judge_times t.graph e) t.graph e
  unfolding start_of started_on
  start_13_14 {e} h = start-given h ∙ rw (taken-file, graph-of) refl

  tick-on : {r : Run} {y : Ticked} → TickGives s r y → y ≡ tick_on_of (read_of s).graph r
  unfolding tick_of
  tick-on h = tick-given h ∙ rw taken-file refl

  -- THEOREM. A tick says no exactly where the record doesn't suit the graph, with 16, and hands back the record that it was given.
  pub tick_16 : {r : Run} {y : Ticked} → Bytes s → TickGives s r y → (y ≡ record { report = NoTick (at_0 16); run = r }) ↔ (Suits t.graph r → ⊥)
  unfolding tick_on_of ticked_of
  tick_16 {r} bytes h = rw (tick-on h, graph-of) (go (suits (read_of s).graph r) refl)
    where
      A : AcceptedGraph (read_of s).graph
      A = reader.taken s bytes taken-file

      go : (b : Bool) → suits (read_of s).graph r ≡ b → (tick_on_of (read_of s).graph r ≡ record { report = NoTick (at_0 16); run = r }) ↔ (Suits (read_of s).graph r → ⊥)
      go true e = (λ q. absurd (moves (over (read_of s).graph r) _ (rw e at q)), λ f. absurd (f (suits-sound (read_of s).graph r A e)))
        where
          moves : (b : Bool) (n : Run) → ◌≡◌ {A = Ticked} (pick b (record { report = Done; run = r }) (record { report = Moved; run = n })) (record { report = NoTick (at_0 16); run = r }) → ⊥
          moves true n q = let w : ◌≡◌ {A = Report} Done (NoTick (at_0 16)) = ap (λ (t : Ticked). t.report) q in let z : ◌≡◌ {A = ℕ} 0 1 = cc in omega arith
          moves false n q = let w : ◌≡◌ {A = Report} Moved (NoTick (at_0 16)) = ap (λ (t : Ticked). t.report) q in let z : ◌≡◌ {A = ℕ} 0 1 = cc in omega arith
      go false e = (λ q f. clash (suits-complete (read_of s).graph r A f) e, λ f. rw e refl)

  -- THEOREM. A run says no with 13 or 14 as a start does, then with 15 exactly where the room is below N; and leaves the list as it was.
  pub run_13_14 : {e old new : List ℕ} {p : Played} {x : Refusal} → RunGives s e old p new → judge_times t.graph e ≡ Refused x → (p ≡ NoRun x) × (new ≡ old)
  unfolding play_of play_on_of finishes_of
  run_13_14 h j =
      let e = run-given h in
      let k = rw graph-of at j in
      (e.0 ∙ rw (taken-file, k) refl, e.1 ∙ rw (taken-file, k) refl)

  pub run_15 : {e old new : List ℕ} {p : Played} → RunGives s e old p new → judge_times t.graph e ≡ Accepted → length old < t.graph.n
      → (p ≡ NoRun (at_0 15)) × (new ≡ old)
  unfolding play_of play_on_of play_in finishes_of
  run_15 {old = old} h j l =
      let e = run-given h in
      let k = rw graph-of at j in
      let b = lt-ltb (length old) (read_of s).graph.n (rw graph-of at l) in
      (e.0 ∙ rw (taken-file, k, b) refl, e.1 ∙ rw (taken-file, k, b) refl)

-- ---- number 0

-- THEOREM. In document 01's numbers, number 0 is given exactly where nothing is refused.
pub read-zero : {s : List ℕ} {t : Taken} → ReadGives s t → ((of_answer t.answer).number ≡ 0) ↔ ((x : Refusal) → t.answer ≡ Refused x → ⊥)
read-zero {s} {t} h = numbers.zero-answer t.answer (λ x e. (numbers.read-says s x (sym (answer-of h) ∙ e)).above)

pub write-zero : {g : Lists} {old new : List ℕ} {w : Wrote} → WriteGives g old w new → ((of_wrote w).number ≡ 0) ↔ ((x : Refusal) → w ≡ NotWritten x → ⊥)
write-zero {w = w} h = numbers.zero-wrote w (λ x e. (numbers.write-says (write_answers h) x e).above)

pub bounds-zero : {s : List ℕ} {b : Bounded} → BoundsGives s b → ((of_answer b.answer).number ≡ 0) ↔ ((x : Refusal) → b.answer ≡ Refused x → ⊥)
bounds-zero {s} {b} h = numbers.zero-answer b.answer (λ x e. (numbers.read-says s x (sym (bounds-given h).answer ∙ e)).above)

pub path-zero : {s old new : List ℕ} {p : Pathed} → PathGives s old p new → ((of_pathed p).number ≡ 0) ↔ ((x : Refusal) → p ≡ NoPath x → ⊥)
path-zero {p = p} h = numbers.zero_pathed p (λ x e. (numbers.path-says (path-given h) x e).above)

pub start-zero : {s e : List ℕ} {r : Started} → StartGives s e r → ((of_answer r.answer).number ≡ 0) ↔ ((x : Refusal) → r.answer ≡ Refused x → ⊥)
start-zero {s} {e} {r} h =
    numbers.zero-answer r.answer (λ x q. (numbers.start-says s e x (sym (ap (λ (r : Started). r.answer) (start-given h)) ∙ q)).above)

pub tick-zero : {s : List ℕ} {r : Run} {y : Ticked} → TickGives s r y → ((of_report y.report).number ≡ 0) ↔ ((x : Refusal) → y.report ≡ NoTick x → ⊥)
tick-zero {s} {r} {y} h =
    numbers.zero-report y.report (λ x q. (numbers.tick-says s r x (sym (ap (λ (y : Ticked). y.report) (tick-given h)) ∙ q)).above)

pub run-zero : {s e old new : List ℕ} {p : Played} → RunGives s e old p new → ((of_played p).number ≡ 0) ↔ ((x : Refusal) → p ≡ NoRun x → ⊥)
run-zero {s} {e} {old} {p = p} h = numbers.zero-played p (λ x q. (numbers.run-says s e (length old) x (sym (run-given h).0 ∙ q)).above)
