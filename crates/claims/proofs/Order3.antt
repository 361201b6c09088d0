-- Order 3, "Several starts and ends": "Accept any number of sources and sinks .. A complete path runs from any source to any sink, and the run ends
-- when all are finished. .. Demands 2 and 3 hold over this wider class, with answers unchanged for graphs accepted before .. 12 never occurs, and
-- this is shown."
--
-- The demands keep their files. `accepted_exactly` (Demand1) says which files are accepted now, and it speaks of no source and no sink; Demand2,
-- Demand3 and Called are said of every accepted file, so that they hold over this wider class as they stand.
use Rattle.std.specs.Prelude.{Ok, Err}
use mathlib.Core.Path.{◌≡◌, refl, sym, ap, ◌∙◌}
use mathlib.Core.Logic.{◌⊎◌, inl, inr, ◌↔◌}
use mathlib.Core.Bool.{true, false}
use mathlib.Core.List.{List, [], ◌∷◌}
use Prim.Native.Nat.{ℕ, ◌≤◌, ◌<◌}
use native.Mathlib.Omega.{arith}
use native.Mathlib.Decide.{ℕ_discrete}
use lib.Dec.{lit≤, lit<}
use lib.ListN.{get_or, length}
use borrow.Author.Tests.{eq-eqb, ne_eqb}
use Rattle.model.specs.Places.{along}
use Rattle.model.specs.Graph.{Graph, Source, Sink}
use Rattle.model.specs.Path.{ToSink, end, Complete, complete, Before, here, later}
use Rattle.model.specs.Bounds.{scaled, ThePath}
use Rattle.model.specs.Schedule.{AllFinished}
use Rattle.model.proofs.Bools.{cases}
use Rattle.graph.specs.File.{graph_of, no_graph_of}
use Rattle.graph.specs.Rules.{holds, places}
use Rattle.graph.specs.Judge.{judge_from, read_of}
use Rattle.graph.specs.Said.{of_answer}
use Rattle.graph.specs.declared.Refusal.{Refusal}
use Rattle.graph.specs.Answer.{Taken}
use Rattle.graph.specs.Answer.{Answer}
use Rattle.graph.specs.Answer.{Accepted, Refused}
use Rattle.graph.proofs.Judging.{none-holds, rightly, accepts, rightly_judged}
use Rattle.units.specs.declared.Ticks.{Ticks}
use Rattle.writer.specs.Lists.{Lists}
use Rattle.writer.specs.Write.{file_of, wrote_by, wrote_of, room_by, room_after, of_wrote}
use Rattle.writer.specs.Wrote.{Wrote}
use Rattle.writer.specs.Wrote.{Refused as NotWritten}
use Rattle.bounds.specs.Answers.{Figures, PathIn, PathOf, refused, accepted, of_pathed}
use Rattle.bounds.specs.Bounded.{Bounded}
use Rattle.bounds.specs.Pathed.{Pathed}
use Rattle.gains.specs.Answers.{GainedIn, AlteredIn, GainsOf, AlteredOf, of_gained}
use Rattle.gains.specs.Answers as gains
use Rattle.gains.specs.Gained.{Gained}
use Rattle.tick.specs.declared.Run.{Run}
use Rattle.tick.specs.Report.{Report}
use Rattle.tick.specs.declared.Ticked.{Ticked}
use Rattle.tick.specs.Run.{of_report}
use Rattle.schedule.specs.Start.{started_on, start_of}
use Rattle.schedule.specs.Tick.{tick_on_of, tick_of}
use Rattle.schedule.specs.Whole.{play_on_of, play_of, filled_beside, finishes_of, of_played}
use Rattle.schedule.specs.Start.{Started}
use Rattle.schedule.specs.Played.{Played}
use Rattle.schedule.specs.Played.{Finish as Finished}
use Rattle.codes.specs.declared.PlannerGraph.{PlannerGraph}
use Rattle.codes.specs.declared.PlannerCount.{PlannerCount}
use Rattle.codes.specs.declared.PlannerBounds.{PlannerBounds}
use Rattle.codes.specs.declared.PlannerRun.{PlannerRun}
use Rattle.codes.specs.declared.PlannerMoved.{PlannerMoved}
use Rattle.codes.specs.declared.PlannerTick.{PlannerTick}
use Rattle.codes.specs.declared.PlannerFinish.{PlannerFinish}
use Rattle.claims.specs.Claims.{Bytes, graph_in, drawn_in, schedule, at_0}
use Rattle.claims.specs.Entries.{ReadGives, WriteGives, BoundsGives, PathGives, GainsGives, AlteredGives, StartGives, TickGives, TickInPlaceGives, RunGives, PlannerReadGives, PlannerWriteGives, PlannerBoundsGives, PlannerPathGives, PlannerGainsGives, PlannerAlteredGives, PlannerStartGives, PlannerTickGives, PlannerTickInPlaceGives, PlannerRunGives}
use Rattle.claims.specs.Former.{rule12, held_before, AcceptedBefore, RefusedBefore}
use Rattle.claims.proofs.Entries as given
use Rattle.claims.proofs.Judged.{write-answered}
use Rattle.claims.proofs.Numbers as numbers
use Rattle.claims.proofs.Demand2.{run_is}

-- ---- any number of sources and sinks

-- THEOREM. A complete path runs from any source to any sink along edges; a vertex that is both is one by itself.
pub complete_exactly : {G : Graph} {u : ℕ} {p : List ℕ} → Complete G (u ∷ p) ↔ (Source G u × ToSink G (u ∷ p))
complete_exactly {G} {u} {p} = (to, λ c. complete c.0 c.1)
  where
    to : Complete G (u ∷ p) → Source G u × ToSink G (u ∷ p)
    to (complete s t) = (s, t)

pub isolated : {G : Graph} {v : ℕ} → v < G.n → Source G v → Sink G v → Complete G (v ∷ [])
isolated l s t = complete s (end l t)

head-before : {u v : ℕ} {p q : List ℕ} → Before (u ∷ p) (v ∷ q) → u ≤ v
head-before (here l) = omega arith
head-before (later b) = omega arith

-- THEOREM. The path begins at the least of the sources at which a path with the largest sum begins.
pub least-source : {G : Graph} {h u : ℕ} {p q : List ℕ} → ThePath G (h ∷ p) → Complete G (u ∷ q)
    → along (scaled G) (u ∷ q) ≡ along (scaled G) (h ∷ p) → h ≤ u
least-source {h = h} {u = u} {p = p} {q = q} T c e = go (T.least (u ∷ q) c e)
  where
    go : ((u ∷ q) ≡ (h ∷ p)) ⊎ Before (h ∷ p) (u ∷ q) → h ≤ u
    go (inl z) = let d : u ≡ h = ap (λ (l : List ℕ). get_or l 0 0) z in omega arith
    go (inr b) = head-before b

-- THEOREM. The finish that `run` returns is the first instant at which all vertices are finished.
pub run-ends-with-all : {s e old new : List ℕ} {F : Ticks} → Bytes s → RunGives s e old (Finished F) new
    → AllFinished (graph_in s) (schedule s e) F.0 × ((t : ℕ) → t < F.0 → AllFinished (graph_in s) (schedule s e) t → ⊥)
run-ends-with-all bytes h = let R = (run_is bytes h).finish in (R.all, R.first)

-- ---- number 12

-- THEOREM. Number 12 is never given: not by the reader, not by the writer, not by any entry.
pub read_never_12 : {s : List ℕ} {t : Taken} → ReadGives s t → (of_answer t.answer).number ≡ 12 → ⊥
read_never_12 {s} {t} h = numbers.never_answer t.answer (λ x e. numbers.read-says s x (sym (ap (λ (t : Taken). t.answer) (given.read-given h)) ∙ e))

pub write_never_12 : {g : Lists} {old new : List ℕ} {w : Wrote} → WriteGives g old w new → (of_wrote w).number ≡ 12 → ⊥
write_never_12 {g} {old} {w = w} h = numbers.never_wrote w (λ x e. numbers.write-says (write-answered g old) x (sym (given.write-given h).0 ∙ e))

pub bounds_never_12 : {s : List ℕ} {b : Bounded} → BoundsGives s b → (of_answer b.answer).number ≡ 12 → ⊥
bounds_never_12 {s} {b} h = numbers.never_answer b.answer (λ x e. numbers.read-says s x (sym (given.bounds-given h).answer ∙ e))

pub path_never_12 : {s old new : List ℕ} {p : Pathed} → PathGives s old p new → (of_pathed p).number ≡ 12 → ⊥
path_never_12 {p = p} h = numbers.never_pathed p (numbers.path-says (given.path-given h))

pub gains_never_12 : {s old new : List ℕ} {g : Gained} → GainsGives s old g new → (of_gained g).number ≡ 12 → ⊥
gains_never_12 {g = g} h = numbers.never_gained g (numbers.gains-says (given.gains-given h))

pub altered_never_12 : {s old new : List ℕ} {v x : ℕ} {g : Gained} → AlteredGives s v x old g new → (of_gained g).number ≡ 12 → ⊥
altered_never_12 {g = g} h = numbers.never_gained g (numbers.altered-says (given.altered-given h))

pub start_never_12 : {s e : List ℕ} {r : Started} → StartGives s e r → (of_answer r.answer).number ≡ 12 → ⊥
start_never_12 {s} {e} {r} h =
    numbers.never_answer r.answer (λ x q. numbers.start-says s e x (sym (ap (λ (r : Started). r.answer) (given.start-given h)) ∙ q))

pub tick_never_12 : {s : List ℕ} {r : Run} {y : Ticked} → TickGives s r y → (of_report y.report).number ≡ 12 → ⊥
tick_never_12 {s} {r} {y} h =
    numbers.never_report y.report (λ x q. numbers.tick-says s r x (sym (ap (λ (y : Ticked). y.report) (given.tick-given h)) ∙ q))

pub tick_in_place_never_12 : {s : List ℕ} {r r' : Run} {y : Report} → TickInPlaceGives s r y r' → (of_report y).number ≡ 12 → ⊥
tick_in_place_never_12 {s} {r} {y = y} h =
    numbers.never_report y (λ x q. numbers.tick-says s r x (sym (ap (λ (y : Ticked). y.report) (given.tick_in_place-given h)) ∙ q))

pub run_never_12 : {s e old new : List ℕ} {p : Played} → RunGives s e old p new → (of_played p).number ≡ 12 → ⊥
run_never_12 {s} {e} {old} {p = p} h = numbers.never_played p (λ x q. numbers.run-says s e (length old) x (sym (given.run-given h).0 ∙ q))

-- THEOREM. Nor by any entry for C and Rust.
pub planner_read_never_12 : {s : List ℕ} {r : PlannerGraph} → PlannerReadGives s r → r.number ≡ 12 → ⊥
planner_read_never_12 {s} h z =
    numbers.never_answer (read_of s).answer (numbers.read-says s) (sym (ap (λ (r : PlannerGraph). r.number) (given.planner_read-given h)) ∙ z)

pub planner_write_never_12 : {g : Lists} {old new : List ℕ} {r : PlannerCount} → PlannerWriteGives g old r new → r.number ≡ 12 → ⊥
planner_write_never_12 {g} {old} h z =
    numbers.never_wrote (wrote_of g (length old)) (numbers.write-says (write-answered g old)) (sym (ap (λ (r : PlannerCount). r.number) (given.planner_write-given h).0) ∙ z)

pub planner_bounds_never_12 : {s : List ℕ} {r : PlannerBounds} → PlannerBoundsGives s r → r.number ≡ 12 → ⊥
planner_bounds_never_12 {s} h z =
    let c = given.planner_bounds-given h in
    numbers.never_answer c.bounded.answer (λ x e. numbers.read-says s x (sym c.of.answer ∙ e)) (sym (ap (λ (r : PlannerBounds). r.number) c.coded) ∙ z)

pub planner_path_never_12 : {s old new : List ℕ} {r : PlannerCount} → PlannerPathGives s old r new → r.number ≡ 12 → ⊥
planner_path_never_12 h z =
    let c = given.planner_path-given h in
    numbers.never_pathed c.found (numbers.path-says c.of) (sym (ap (λ (r : PlannerCount). r.number) c.coded) ∙ z)

pub planner_gains_never_12 : {s old new : List ℕ} {r : PlannerCount} → PlannerGainsGives s old r new → r.number ≡ 12 → ⊥
planner_gains_never_12 h z =
    let c = given.planner_gains-given h in
    numbers.never_gained c.found (numbers.gains-says c.of) (sym (ap (λ (r : PlannerCount). r.number) c.coded) ∙ z)

pub planner_altered_never_12 : {s old new : List ℕ} {v x : ℕ} {r : PlannerCount} → PlannerAlteredGives s v x old r new → r.number ≡ 12 → ⊥
planner_altered_never_12 h z =
    let c = given.planner_altered-given h in
    numbers.never_gained c.found (numbers.altered-says c.of) (sym (ap (λ (r : PlannerCount). r.number) c.coded) ∙ z)

pub planner_start_never_12 : {s e : List ℕ} {r : PlannerRun} → PlannerStartGives s e r → r.number ≡ 12 → ⊥
planner_start_never_12 {s} {e} h z =
    numbers.never_answer (start_of s e).answer (numbers.start-says s e) (sym (ap (λ (r : PlannerRun). r.number) (given.planner_start-given h)) ∙ z)

pub planner_tick_never_12 : {s : List ℕ} {r : Run} {t : PlannerTick} → PlannerTickGives s r t → t.number ≡ 12 → ⊥
planner_tick_never_12 {s} {r} h z =
    numbers.never_report (tick_of s r).report (numbers.tick-says s r) (sym (ap (λ (t : PlannerTick). t.number) (given.planner_tick-given h)) ∙ z)

pub planner_tick_in_place_never_12 : {s : List ℕ} {r r' : Run} {x : PlannerMoved} → PlannerTickInPlaceGives s r x r' → x.number ≡ 12 → ⊥
planner_tick_in_place_never_12 {s} {r} h z =
    numbers.never_report (tick_of s r).report (numbers.tick-says s r) (sym (ap (λ (x : PlannerMoved). x.number) (given.planner_tick_in_place-given h).1) ∙ z)

pub planner_run_never_12 : {s e old new : List ℕ} {p : PlannerFinish} → PlannerRunGives s e old p new → p.number ≡ 12 → ⊥
planner_run_never_12 {s} {e} {old} h z =
    numbers.never_played (play_of s e (length old)) (numbers.run-says s e (length old)) (sym (ap (λ (p : PlannerFinish). p.number) (given.planner_run-given h).0) ∙ z)

-- ---- files that were accepted or refused before: the numbers up to 11 held as they hold

as_before : (s : List ℕ) (num k : ℕ) → (num ≡ 12 → ⊥) → held_before s num k ≡ holds s num k
unfolding held_before
as_before s num k x = rw (ne_eqb num 12 x) refl

twelfth : (s : List ℕ) (k : ℕ) → held_before s 12 k ≡ rule12 s
unfolding held_before
twelfth s k = refl

module _ (a : ℕ) (s : List ℕ) (known : a ≤ 12) where
  accepted-now : AcceptedBefore a s → judge_from a s ≡ Accepted
  accepted-now was = accepts a s known (λ num k f l d. sym (as_before s num k (λ e. omega arith)) ∙ was num k f (omega arith) d)

  refused-now : (r : Refusal) → RefusedBefore a s r → (r.number ≡ 12 → ⊥) → judge_from a s ≡ Refused r
  refused-now r R x =
      let lower : r.number < 12 = omega (arith, R.known) in
      rightly_judged a s r (record {
        least = R.least;
        known = lower;
        within = R.within;
        there = sym (as_before s r.number r.place x) ∙ R.there;
        not_before = λ k b. sym (as_before s r.number k x) ∙ R.not_before k b;
        no_lower = λ num k f b d. sym (as_before s num k (λ e. omega arith)) ∙ R.no_lower num k f b d;
      })

  refused-no-more : (r : Refusal) → RefusedBefore a s r → r.number ≡ 12 → judge_from a s ≡ Accepted
  refused-no-more r R e = accepts a s known (λ num k f l d. sym (as_before s num k (λ q. omega arith)) ∙ R.no_lower num k f (omega arith) d)

  -- THEOREM. What is said of before is the whole judgement: every file was accepted, or refused with some number and place.
  pub judged-before : AcceptedBefore a s ⊎ ((r : Refusal) × RefusedBefore a s r)
  judged-before = go (judge_from a s) refl (cases (rule12 s))
    where
      none : judge_from a s ≡ Accepted → (num k : ℕ) → a ≤ num → num < 12 → k < places s num → held_before s num k ≡ false
      none e num k f l d = as_before s num k (λ q. omega arith) ∙ none-holds a s e num f l k d

      go : (x : Answer) → judge_from a s ≡ x → (rule12 s ≡ true) ⊎ (rule12 s ≡ false) → AcceptedBefore a s ⊎ ((r : Refusal) × RefusedBefore a s r)
      go (Err r) e y =
          let R = rightly a s r e in
          let q = as_before s r.number in
          inr (
            r,
            record {
              least = R.least;
              known = omega (arith, R.known);
              within = R.within;
              there = q r.place (λ z. omega (arith, R.known)) ∙ R.there;
              not_before = λ k b. q k (λ z. omega (arith, R.known)) ∙ R.not_before k b;
              no_lower = λ num k f b d. as_before s num k (λ z. omega (arith, R.known)) ∙ R.no_lower num k f b d;
            },
          )
      go (Ok _) e (inl t) = inr (
        at_0 12,
        record {
          least = known;
          known = lit< tt;
          within = unfold places in lit< tt;
          there = twelfth s 0 ∙ t;
          not_before = λ k b. absurd (omega arith);
          no_lower = none e;
        },
      )
      go (Ok _) e (inr n) = inl (λ num k f l d. at num k f l d (ℕ_discrete num 12))
        where
          at : (num k : ℕ) → a ≤ num → num < 13 → k < places s num → Dec (num ≡ 12) → held_before s num k ≡ false
          at num k f l d (yes q) = rw q (twelfth s k ∙ n)
          at num k f l d (no q) = none e num k f (omega arith) d

-- THEOREM. A file that was accepted is accepted, with the graph that it had. Beside it stands what the contract of each entry says of such a file:
-- word for word what it said before, and it leaves one answer (docs/TIGHT.md), so that every answer is the one that it was.
module _ (s : List ℕ) (was : AcceptedBefore 1 s) where
  reads : read_of s ≡ record { answer = Accepted; graph = graph_of s }
  unfolding read_of
  reads = rw (accepted-now 1 s (lit≤ tt) was) refl

  pub read_unchanged : {t : Taken} → ReadGives s t → t ≡ record { answer = Accepted; graph = graph_of s }
  read_unchanged h = given.read-given h ∙ reads

  pub bounds_unchanged : {b : Bounded} → BoundsGives s b → (b.answer ≡ Accepted) × Figures (drawn_in s) b
  bounds_unchanged h = let b = given.bounds-given h in (rw reads at b.answer, rw reads at b.figures)

  pub path_unchanged : {old new : List ℕ} {p : Pathed} → PathGives s old p new → PathIn (graph_of s) old p new
  path_unchanged h = go (given.path-given h)
    where
      go : {old new : List ℕ} {p : Pathed} → PathOf s old p new → PathIn (graph_of s) old p new
      go (refused e) = absurd (let q = ap (λ (t : Taken). t.answer) reads in let z : ◌≡◌ {A = ℕ} 0 1 = cc in omega arith)
      go (accepted e p) = rw reads at p

  pub gains_unchanged : {old new : List ℕ} {g : Gained} → GainsGives s old g new → GainedIn (drawn_in s) old g new
  gains_unchanged h = go (given.gains-given h)
    where
      go : {old new : List ℕ} {g : Gained} → GainsOf s old g new → GainedIn (drawn_in s) old g new
      go (gains.refused e) = absurd (let q = ap (λ (t : Taken). t.answer) reads in let z : ◌≡◌ {A = ℕ} 0 1 = cc in omega arith)
      go (gains.accepted e p) = rw reads at p

  pub altered_unchanged : {old new : List ℕ} {v x : ℕ} {g : Gained} → AlteredGives s v x old g new → AlteredIn (graph_of s) v x old g new
  altered_unchanged h = go (given.altered-given h)
    where
      go : {old new : List ℕ} {v x : ℕ} {g : Gained} → AlteredOf s v x old g new → AlteredIn (graph_of s) v x old g new
      go (gains.refused e) = absurd (let q = ap (λ (t : Taken). t.answer) reads in let z : ◌≡◌ {A = ℕ} 0 1 = cc in omega arith)
      go (gains.accepted e p) = rw reads at p

  pub start_unchanged : {e : List ℕ} {r : Started} → StartGives s e r → r ≡ started_on (graph_of s) e
  unfolding start_of
  start_unchanged h = given.start-given h ∙ rw reads refl

  pub tick_unchanged : {r : Run} {y : Ticked} → TickGives s r y → y ≡ tick_on_of (graph_of s) r
  unfolding tick_of
  tick_unchanged h = given.tick-given h ∙ rw reads refl

  pub tick_in_place_unchanged : {r r' : Run} {y : Report} → TickInPlaceGives s r y r'
      → ◌≡◌ {A = Ticked} (record { report = y; run = r' }) (tick_on_of (graph_of s) r)
  unfolding tick_of
  tick_in_place_unchanged h = given.tick_in_place-given h ∙ rw reads refl

  pub run_unchanged : {e old new : List ℕ} {p : Played} → RunGives s e old p new
      → (p ≡ play_on_of (graph_of s) e (length old)) × (new ≡ filled_beside (play_on_of (graph_of s) e (length old)) (graph_of s) e old)
  unfolding play_of finishes_of
  run_unchanged h = let q = given.run-given h in (q.0 ∙ rw reads refl, q.1 ∙ rw reads refl)

-- THEOREM. A file that was refused with another number than 12 is refused so, at the same place; demand 1 has what every entry then says. One that
-- was refused with 12 is accepted.
pub refused_unchanged : {s : List ℕ} {t : Taken} {r : Refusal} → RefusedBefore 1 s r → (r.number ≡ 12 → ⊥) → ReadGives s t
    → t ≡ record { answer = Refused r; graph = no_graph_of }
unfolding read_of
refused_unchanged {s} {r = r} R x h = given.read-given h ∙ rw (refused-now 1 s (lit≤ tt) r R x) refl

pub twelve_accepted : {s : List ℕ} {t : Taken} {r : Refusal} → RefusedBefore 1 s r → r.number ≡ 12 → ReadGives s t
    → t ≡ record { answer = Accepted; graph = graph_of s }
unfolding read_of
twelve_accepted {s} {r = r} R e h = given.read-given h ∙ rw (refused-no-more 1 s (lit≤ tt) r R e) refl

-- THEOREM. So it is with the writer, where types and WCETs are of one length: 13 is given as before where they are not (`write_answers`).
module _ {g : Lists} (alike : length g.kinds ≡ length g.wcets) {old new : List ℕ} {w : Wrote} (W : WriteGives g old w new) where
  judged-so : (x : Answer) → judge_from 4 (file_of g) ≡ x → (w ≡ wrote_by x (length (file_of g)) (length old)) × (new ≡ room_by w (file_of g) old)
  unfolding wrote_of room_after
  judged-so x e =
      let q = given.write-given W in
      let t = eq-eqb (length g.kinds) (length g.wcets) alike in
      (q.0 ∙ rw (t, e) refl, q.1 ∙ rw q.0 refl)

  pub write_unchanged : AcceptedBefore 4 (file_of g) → (w ≡ wrote_by Accepted (length (file_of g)) (length old)) × (new ≡ room_by w (file_of g) old)
  write_unchanged was = judged-so Accepted (accepted-now 4 (file_of g) (lit≤ tt) was)

  pub write-refused_unchanged : {r : Refusal} → RefusedBefore 4 (file_of g) r → (r.number ≡ 12 → ⊥) → (w ≡ NotWritten r) × (new ≡ old)
  write-refused_unchanged {r} R x =
      let e = judged-so (Refused r) (refused-now 4 (file_of g) (lit≤ tt) r R x) in
      (e.0, rw e.0 at e.1)

  pub write_twelve_accepted : {r : Refusal} → RefusedBefore 4 (file_of g) r → r.number ≡ 12
      → (w ≡ wrote_by Accepted (length (file_of g)) (length old)) × (new ≡ room_by w (file_of g) old)
  write_twelve_accepted {r} R e = judged-so Accepted (refused-no-more 4 (file_of g) (lit≤ tt) r R e)
