-- FROM THE CALL IN C TO THE SCHEDULE ON THE BOARD. The entries for C and Rust give what the entries give, in document 01's numbers; so the
-- three demands hold of what C sees.
use Rattle.std.specs.Prelude.{Ok, Err}
use mathlib.Core.Path.{◌≡◌, refl, sym, ap, ◌∙◌}
use mathlib.Core.List.{List}
use Prim.Native.Nat.{ℕ, ◌*◌, ◌≤◌, ◌<◌}
use native.Mathlib.Omega.{arith}
use lib.ListN.{length}
use Rattle.model.specs.Bounds.{PARTS}
use Rattle.model.specs.Schedule.{Times, EndsBy}
use Rattle.model.specs.Placing.{Placing, counted, NoneIdle}
use Rattle.graph.specs.Judge.{read_of}
use Rattle.graph.specs.Said.{of_answer}
use Rattle.graph.specs.declared.Refusal.{Refusal}
use Rattle.graph.specs.Answer.{Taken}
use Rattle.graph.specs.Answer.{Answer}
use Rattle.graph.specs.Answer.{Accepted, Refused}
use Rattle.units.specs.declared.Ticks.{Ticks}
use Rattle.writer.specs.Lists.{Lists}
use Rattle.writer.specs.Write.{wrote_of, room_after}
use Rattle.writer.specs.Wrote.{Wrote}
use Rattle.writer.specs.Wrote.{Bytes as Wrote-bytes, Refused as NotWritten}
use Rattle.bounds.specs.Answers.{BoundsOf, PathOf, refused, accepted, narrow, found}
use Rattle.bounds.specs.Bounded.{Bounded}
use Rattle.bounds.specs.Pathed.{Pathed}
use Rattle.bounds.proofs.Unique.{bounds_unique, path-of_unique}
use Rattle.tick.specs.declared.Run.{Run}
use Rattle.tick.specs.Report.{Report}
use Rattle.tick.specs.declared.Ticked.{Ticked}
use Rattle.schedule.specs.Whole.{play_of, finishes_of, of_played}
use Rattle.schedule.specs.Start.{Started}
use Rattle.schedule.specs.Played.{Played}
use Rattle.schedule.specs.Played.{Finish as Finished, Refused as NoRun}
use Rattle.codes.specs.Coded.{coded_graph_of, coded_wrote_of, coded_bounds_of, coded_path_of, BoundsCoded, PathCoded}
use Rattle.codes.specs.CodedRun.{coded_start_of, coded_report_of, coded_tick_of, coded_play_of}
use Rattle.codes.specs.declared.PlannerGraph.{PlannerGraph}
use Rattle.codes.specs.declared.PlannerCount.{PlannerCount}
use Rattle.codes.specs.declared.PlannerBounds.{PlannerBounds}
use Rattle.codes.specs.declared.PlannerRun.{PlannerRun}
use Rattle.codes.specs.declared.PlannerMoved.{PlannerMoved}
use Rattle.codes.specs.declared.PlannerTick.{PlannerTick}
use Rattle.codes.specs.declared.PlannerFinish.{PlannerFinish}
use Rattle.claims.specs.Claims.{Bytes, IsAccepted, graph_in, RunLent}
use Rattle.claims.specs.Entries.{ReadGives, WriteGives, BoundsGives, PathGives, StartGives, TickGives, TickInPlaceGives, RunGives, PlannerReadGives, PlannerWriteGives, PlannerBoundsGives, PlannerPathGives, PlannerStartGives, PlannerTickGives, PlannerTickInPlaceGives, PlannerRunGives}
use Rattle.claims.proofs.Entries as given
use Rattle.claims.proofs.Numbers.{read-says, run-says}
use Rattle.claims.proofs.Running.{finish-told, run_lent}
use Rattle.claims.proofs.Ending as ending

-- ---- one entry, two callers

-- THEOREM. Each entry for C gives what its entry gives, in numbers, and leaves in what is lent what that leaves there.
pub planner_read-is : {s : List ℕ} {r : PlannerGraph} {t : Taken} → PlannerReadGives s r → ReadGives s t → r ≡ coded_graph_of t
planner_read-is p h = given.planner_read-given p ∙ ap coded_graph_of (sym (given.read-given h))

pub planner_write-is : {g : Lists} {old new new' : List ℕ} {r : PlannerCount} {w : Wrote} → PlannerWriteGives g old r new → WriteGives g old w new'
    → (r ≡ coded_wrote_of w) × (new ≡ new')
planner_write-is p h = let a = given.planner_write-given p in let b = given.write-given h in (a.0 ∙ ap coded_wrote_of (sym b.0), a.1 ∙ sym b.1)

pub planner_bounds-is : {s : List ℕ} {r : PlannerBounds} {b : Bounded} → PlannerBoundsGives s r → BoundsGives s b → r ≡ coded_bounds_of b
planner_bounds-is {s} {b = b} p h =
    let c = given.planner_bounds-given p in c.coded ∙ ap coded_bounds_of (bounds_unique s c.bounded b c.of (given.bounds-given h))

pub planner_path-is : {s old new new' : List ℕ} {r : PlannerCount} {p : Pathed} → PlannerPathGives s old r new → PathGives s old p new'
    → (r ≡ coded_path_of p) × (new ≡ new')
planner_path-is q h =
    let c = given.planner_path-given q in
    let u = path-of_unique c.of (given.path-given h) in
    (c.coded ∙ ap coded_path_of u.0, u.1)

pub planner_start-is : {s e : List ℕ} {r : PlannerRun} {x : Started} → PlannerStartGives s e r → StartGives s e x → r ≡ coded_start_of x
planner_start-is p h = given.planner_start-given p ∙ ap coded_start_of (sym (given.start-given h))

pub planner_tick-is : {s : List ℕ} {r : Run} {t : PlannerTick} {y : Ticked} → PlannerTickGives s r t → TickGives s r y → t ≡ coded_tick_of y
planner_tick-is p h = given.planner_tick-given p ∙ ap coded_tick_of (sym (given.tick-given h))

pub planner_tick_in_place-is : {s : List ℕ} {r r' q : Run} {x : PlannerMoved} {y : Report} → PlannerTickInPlaceGives s r x r' → TickInPlaceGives s r y q
    → (x ≡ coded_report_of y) × (r' ≡ q)
planner_tick_in_place-is p h =
    let a = given.planner_tick_in_place-given p in
    let e = given.tick_in_place-given h in
    (a.1 ∙ ap (λ (t : Ticked). coded_report_of t.report) (sym e), a.0 ∙ ap (λ (t : Ticked). t.run) (sym e))

pub planner_run-is : {s e old new new' : List ℕ} {r : PlannerFinish} {p : Played} → PlannerRunGives s e old r new → RunGives s e old p new'
    → (r ≡ coded_play_of p) × (new ≡ new')
planner_run-is q h = let a = given.planner_run-given q in let b = given.run-given h in (a.0 ∙ ap coded_play_of (sym b.0), a.1 ∙ sym b.1)

-- ---- what number 0 tells

accepted-at-zero : (a : Answer) → ((x : Refusal) → a ≡ Refused x → 0 < x.number) → (of_answer a).number ≡ 0 → a ≡ Accepted
accepted-at-zero (Ok _) h z = refl
accepted-at-zero (Err r) h z = absurd (omega (arith, h r refl))

record Ended (p : Played) : Type 0 where
  pub at : Ticks
  pub is : p ≡ Finished at
  pub value : (of_played p).value ≡ at.0

ended-at-zero : (p : Played) → ((x : Refusal) → p ≡ NoRun x → 0 < x.number) → (of_played p).number ≡ 0 → Ended p
ended-at-zero (Ok t) h z = record { at = t; is = refl; value = refl }
ended-at-zero (Err r) h z = absurd (omega (arith, h r refl))

-- ---- demand 3, from what planner_bounds gives with number 0

module _ {s : List ℕ} (bytes : Bytes s) {r : PlannerBounds} (C : PlannerBoundsGives s r) (fine : r.number ≡ 0) where
  coded : BoundsCoded s r
  coded = given.planner_bounds-given C

  taken : IsAccepted s
  taken =
      let b = coded.of.answer in
      sym b ∙ accepted-at-zero coded.bounded.answer (λ x e. (read-says s x (sym b ∙ e)).above) (sym (ap (λ (r : PlannerBounds). r.number) coded.coded) ∙ fine)

  new_is : r.new ≡ coded.bounded.new.0
  new_is = ap (λ (r : PlannerBounds). r.new) coded.coded

  -- THEOREM. Every schedule that gives a stage one core at a time and a core one stage, and at every tick leaves no core of a kind idle while a ready
  -- stage of that kind waits, with any times up to the WCETs, ends by the `new` that planner_bounds gives, in parts.
  pub called-ends_by_new : (P : Placing) → Times (graph_in s) P.time → NoneIdle (graph_in s) P → EndsBy (graph_in s) (counted (graph_in s) P) r.new
  called-ends_by_new P e N = rw new_is (ending.cores-end_by_new s bytes taken coded.bounded coded.of P e N)

  -- THEOREM. That is never above its `old`.
  pub called-new-below-old : r.new ≤ r.old
  called-new-below-old =
      omega (arith, new_is, ap (λ (r : PlannerBounds). r.old) coded.coded, ending.new-below-old s bytes taken coded.bounded coded.of)

  -- THEOREM. And a finish that planner_run gives with number 0 is at or before it.
  pub called-run-below-new : {e old new : List ℕ} {p : PlannerFinish} → PlannerRunGives s e old p new → p.number ≡ 0 → p.finish * PARTS ≤ r.new
  called-run-below-new {e} {old} {p = p} h z =
      let g = (given.planner_run-given h).0 in
      let E = ended-at-zero (play_of s e (length old)) (λ x q. (run-says s e (length old) x q).above) (sym (ap (λ (p : PlannerFinish). p.number) g) ∙ z) in
      let R = finish-told s e (length old) E.at E.is in
      rw (new_is, ap (λ (p : PlannerFinish). p.finish) g ∙ E.value ∙ R.finish) (ending.finish-below-new s bytes taken coded.bounded coded.of e R.fit)

-- THEOREM. What planner_run gives with number 0 is the finish of the file's list schedule; the lent list has each vertex's finish instant in its
-- first N places, and is otherwise as it was.
pub called-run-is : {s e old new : List ℕ} {p : PlannerFinish} → Bytes s → PlannerRunGives s e old p new → p.number ≡ 0 → RunLent s e old new p.finish
called-run-is {s} {e} {old} bytes h z =
    let g = given.planner_run-given h in
    let E = ended-at-zero (play_of s e (length old)) (λ x q. (run-says s e (length old) x q).above) (sym (ap (λ (p : PlannerFinish). p.number) g.0) ∙ z) in
    rw (g.1, ap (λ (p : PlannerFinish). p.finish) g.0 ∙ E.value) (run_lent s e old E.at bytes E.is)
