-- DEMAND 2. The two bounds equal OLD-B and NEW-B-1 of Han and others exactly, in parts of a tick. The record file reads back as the lists
-- it was written from and writes back as the same bytes. A run equals document 01's list schedule, tick for tick.
--
-- OLD-B takes Mmax over the types that at least one vertex has (document 02, order 2).
--
-- Said over the contracts of the entries (`BoundsGives` and the like, specs/Entries).
use mathlib.Core.Path.{◌≡◌, refl, sym, ap, ◌∙◌}
use mathlib.Core.List.{List, ◌++◌}
use Prim.Native.Nat.{ℕ, suc, ◌≤◌, ◌<◌}
use lib.ListN.{length, take, drop}
use Rattle.graph.specs.Judge.{read_of}
use Rattle.graph.specs.Answer.{Accepted}
use Rattle.graph.specs.Answer.{Taken}
use Rattle.units.specs.declared.Ticks.{Ticks}
use Rattle.writer.specs.Lists.{Lists, lists_in, graph_from}
use Rattle.writer.specs.Wrote.{Wrote}
use Rattle.writer.specs.Wrote.{Bytes as Wrote-bytes}
use Rattle.writer.proofs.RoundTrip.{read-written, written_read}
use Rattle.bounds.specs.Answers.{Figures, found, PathOf, accepted}
use Rattle.bounds.specs.Bounded.{Bounded}
use Rattle.bounds.specs.Pathed.{Vertices}
use Rattle.tick.specs.declared.Run.{Run}
use Rattle.tick.specs.Report.{Report}
use Rattle.tick.specs.declared.Ticked.{Ticked}
use Rattle.tick.specs.Report.{Moved, Done}
use Rattle.times.specs.Times.{times_of, judge_times}
use Rattle.leaps.specs.Finishes.{finish_of}
use Rattle.schedule.specs.Start.{Started}
use Rattle.schedule.specs.Played.{Played}
use Rattle.schedule.specs.Played.{Finish as Finished}
use Rattle.schedule.proofs.Answers.{run_returns}
use Rattle.claims.specs.Claims.{Bytes, IsAccepted, graph_in, run_at, PathLent, RunLent}
use Rattle.claims.specs.Entries.{ReadGives, WriteGives, BoundsGives, PathGives, StartGives, TickGives, TickInPlaceGives, RunGives}
use Rattle.claims.proofs.Entries.{read-given, write-given, bounds-given, path-given, start-given, tick-given, tick_in_place-given, run-given}
use Rattle.claims.proofs.Running as running

-- ---- the bounds and the path

-- THEOREM. What `bounds` gives for an accepted file are OLD-B and NEW-B-1 of its graph, and NEW-B-1 in whole ticks, rounded down once.
pub bounds-are : {s : List ℕ} {b : Bounded} → BoundsGives s b → b.answer ≡ Accepted → Figures (graph_in s) b
bounds-are h ok = let b = bounds-given h in let e = sym b.answer ∙ ok in rw e at b.figures

-- THEOREM. Where `path` answers with so many vertices, the lent list begins with the path, and is otherwise as it was.
pub path-is : {s old new : List ℕ} {n : ℕ} → PathGives s old (Vertices n) new → PathLent s old new n
path-is {s} {old} h = go (path-given h)
  where
    go : {new : List ℕ} {n : ℕ} → PathOf s old (Vertices n) new → PathLent s old new n
    go (accepted ok (found {p = p} room h)) = record { path = p; is = h; many = refl; lent = refl }

-- ---- the round trips

-- THEOREM. An accepted file, read and written from the lists of the reader's value, is the same bytes again, and past them what stood there.
pub writes_back : {s old new : List ℕ} {t : Taken} {w : Wrote} → Bytes s → ReadGives s t → t.answer ≡ Accepted → length s ≤ length old
    → WriteGives (lists_in t.graph) old w new → (w ≡ Wrote-bytes (length s)) × (new ≡ s ++ drop (length s) old)
unfolding read_of
writes_back {s} {old} {t = t} bytes r ok room h =
    let b = read-written s old bytes (sym (ap (λ (t : Taken). t.answer) (read-given r)) ∙ ok) room in
    let g : t.graph ≡ (read_of s).graph = ap (λ (t : Taken). t.graph) (read-given r) in
    let e = write-given h in
    (e.0 ∙ rw g b.answer, e.1 ∙ rw g b.room)

-- THEOREM. Whatever lists the writer accepts, reading what it wrote gives these lists, and unused places are zero.
pub reads_back : {g : Lists} {old new : List ℕ} {size : ℕ} {t : Taken} → WriteGives g old (Wrote-bytes size) new → ReadGives (take size new) t
    → (t ≡ record { answer = Accepted; graph = graph_from g }) × (lists_in t.graph ≡ g)
reads_back {g} {old} {size = size} {t = t} h r =
    let e = write-given h in
    let b = written_read g size old (sym e.0) in
    let q : t ≡ record { answer = Accepted; graph = graph_from g } = read-given r ∙ ap read_of (ap (take size) e.1 ∙ b.file) ∙ b.read in
    (q, ap (λ (t : Taken). lists_in t.graph) q ∙ b.lists)

-- ---- the run

-- For an accepted file s and times e that are no refusal of 13 or 14:
module _ {s : List ℕ} {t : Taken} (bytes : Bytes s) (R : ReadGives s t) (ok : t.answer ≡ Accepted) (e : List ℕ) (fit : judge_times t.graph e ≡ Accepted) where
  taken : IsAccepted s
  taken = sym (ap (λ (t : Taken). t.answer) (read-given R)) ∙ ok

  fitting : judge_times (read_of s).graph e ≡ Accepted
  fitting = rw (ap (λ (t : Taken). t.graph) (read-given R)) at fit

  -- THEOREM. A start hands back the record at instant 0.
  pub start_is : {r : Started} → StartGives s e r → r ≡ record { answer = Accepted; run = run_at s e 0 }
  start_is h = start-given h ∙ running.start_is s bytes taken e fitting

  -- THEOREM. Before the finish, a tick of the record at i hands back the record at i + 1 and reports moved; at the finish it reports done and
  -- moves nothing.
  pub tick_is : (i : ℕ) {y : Ticked} → i < finish_of (graph_in s) (times_of e) → TickGives s (run_at s e i) y → y ≡ record { report = Moved; run = run_at s e (suc i) }
  tick_is i l h = tick-given h ∙ running.tick_is s bytes taken e fitting i l

  pub done-is : {y : Ticked} → TickGives s (run_at s e (finish_of (graph_in s) (times_of e))) y → y ≡ record { report = Done; run = run_at s e (finish_of (graph_in s) (times_of e)) }
  done-is h = tick-given h ∙ running.done-is s bytes taken e fitting

  -- THEOREM. A whole run has a finish where there is room for N finish instants.
  pub run-finishes : {old new : List ℕ} {p : Played} → t.graph.n ≤ length old → RunGives s e old p new → p ≡ Finished (record { 0 = finish_of (graph_in s) (times_of e) })
  run-finishes {old} room h = (run-given h).0 ∙ run_returns s taken e fitting (length old) (rw (ap (λ (t : Taken). t.graph) (read-given R)) at room)

-- THEOREM. A tick in place reports what a tick reports, and leaves in the caller's record what that hands back.
pub tick_in_place-is : {s : List ℕ} {r r' : Run} {x : Report} {y : Ticked} → TickInPlaceGives s r x r' → TickGives s r y → y ≡ record { report = x; run = r' }
tick_in_place-is p h = tick-given h ∙ sym (tick_in_place-given p)

-- THEOREM. Where `run` returns a finish, it is the finish of the file's list schedule; the lent list has each vertex's finish instant in its first
-- N places, and is otherwise as it was.
pub run_is : {s e old new : List ℕ} {F : Ticks} → Bytes s → RunGives s e old (Finished F) new → RunLent s e old new F.0
run_is {s} {e} {old} {F = F} bytes h = let q = run-given h in rw q.1 (running.run_lent s e old F bytes (sym q.0))
