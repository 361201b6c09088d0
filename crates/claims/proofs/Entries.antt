-- What the contract of each entry allows is what its definition says. Everything else in this crate is proved from these lines, so that a
-- contract which is weakened breaks here.
use mathlib.Core.Path.{◌≡◌, sym, ap, ap₂, ◌∙◌}
use mathlib.Core.List.{List, ◌++◌}
use Prim.Native.Nat.{ℕ}
use lib.ListN.{length, drop}
use Rattle.graph.specs.File.{records}
use Rattle.graph.specs.Judge.{read_of}
use Rattle.graph.specs.Answer.{Answer}
use Rattle.graph.specs.declared.Graph.{Graph}
use Rattle.graph.specs.Answer.{Taken}
use Rattle.reader.specs.Laid.{RowsInto, KinInto}
use Rattle.writer.specs.Lists.{Lists}
use Rattle.writer.specs.Write.{wrote_of, room_after}
use Rattle.writer.specs.Wrote.{Wrote}
use Rattle.bounds.specs.Answers.{BoundsOf, PathOf}
use Rattle.bounds.specs.Bounded.{Bounded}
use Rattle.bounds.specs.Pathed.{Pathed}
use Rattle.second.specs.Answers.{SecondOf}
use Rattle.second.specs.Seconded.{Seconded}
use Rattle.gains.specs.Answers.{GainsOf, AlteredOf}
use Rattle.gains.specs.Gained.{Gained}
use Rattle.tick.specs.declared.Run.{Run}
use Rattle.tick.specs.Report.{Report}
use Rattle.tick.specs.declared.Ticked.{Ticked}
use Rattle.schedule.specs.Start.{start_of}
use Rattle.schedule.specs.Tick.{tick_of}
use Rattle.schedule.specs.Whole.{play_of, finishes_of}
use Rattle.schedule.specs.Start.{Started}
use Rattle.schedule.specs.Played.{Played}
use Rattle.codes.specs.Coded.{coded_graph_of, coded_wrote_of, coded_mend_of, BoundsCoded, SecondCoded, EnoughCoded, PathCoded, GainsCoded, AlteredCoded}
use Rattle.late.specs.Answers.{LateOf}
use Rattle.late.specs.Lateness.{Lateness}
use Rattle.enough.specs.Answers.{EnoughOf}
use Rattle.enough.specs.Fewest.{Fewest}
use Rattle.boards.specs.Points.{point_of}
use Rattle.boards.specs.declared.Point.{Point}
use Rattle.lanes.specs.Lanes.{lanes_of}
use Rattle.lanes.specs.Passing.{listed}
use Rattle.replay.specs.Answers.{replay_of, times_after_of}
use Rattle.replay.specs.Replayed.{Replayed}
use Rattle.logs.specs.Answers.{logged_of, log_room}
use Rattle.mends.specs.Answers.{mend_of, file_after, list_after_of}
use Rattle.mends.specs.Answers.{Mended}
use Rattle.stg_text.specs.Answers.{read_stg_of, read_room, write_stg_of, write_room}
use Rattle.codes.specs.CodedRun.{coded_start_of, coded_report_of, coded_tick_of, coded_play_of, coded_replay_of, LateCoded}
use Rattle.codes.specs.declared.PlannerGraph.{PlannerGraph}
use Rattle.codes.specs.declared.PlannerEnough.{PlannerEnough}
use Rattle.codes.specs.declared.PlannerCount.{PlannerCount}
use Rattle.codes.specs.declared.PlannerBounds.{PlannerBounds}
use Rattle.codes.specs.declared.PlannerSecond.{PlannerSecond}
use Rattle.codes.specs.declared.PlannerRun.{PlannerRun}
use Rattle.codes.specs.declared.PlannerMoved.{PlannerMoved}
use Rattle.codes.specs.declared.PlannerTick.{PlannerTick}
use Rattle.codes.specs.declared.PlannerFinish.{PlannerFinish}
use Rattle.codes.specs.declared.PlannerLate.{PlannerLate}
use Rattle.codes.specs.declared.PlannerMended.{PlannerMended}
use Rattle.claims.specs.Entries.{ReadGives, RowsGives, KinGives, WriteGives, BoundsGives, SecondGives, PathGives, GainsGives, AlteredGives, StartGives, TickGives, TickInPlaceGives, RunGives, LateGives, EnoughGives, WorseGives, LanesGives, ReplayGives, LogGives, StgReadGives, StgWriteGives, MendGives, PlannerReadGives, PlannerWriteGives, PlannerBoundsGives, PlannerSecondGives, PlannerPathGives, PlannerGainsGives, PlannerAlteredGives, PlannerStartGives, PlannerTickGives, PlannerTickInPlaceGives, PlannerRunGives, PlannerLateGives, PlannerEnoughGives, PlannerReplayGives, PlannerLogGives, PlannerStgReadGives, PlannerStgWriteGives, PlannerMendGives}

pub read-given : {s : List ℕ} {t : Taken} → ReadGives s t → t ≡ read_of s
read-given h = sym h.as_seen.1 ∙ h.ensured ∙ ap read_of h.as_seen.0

pub rows-given : {s : List ℕ} {x : Answer} {p : List (List ℕ)} → RowsGives s x p → (x ≡ (read_of s).answer) × RowsInto s p
rows-given h = let i = h.as_seen in rw (← i.0, ← i.1, ← i.2) (h.ensured.0.answer, h.ensured.1)

pub kin_given : {s : List ℕ} {x : Answer} {p a : List (List ℕ)} → KinGives s x p a → (x ≡ (read_of s).answer) × KinInto s p a
kin_given h = let i = h.as_seen in rw (← i.0, ← i.1, ← i.2, ← i.3) (h.ensured.0.answer, h.ensured.1)

pub write-given : {g : Lists} {old new : List ℕ} {w : Wrote} → WriteGives g old w new → (w ≡ wrote_of g (length old)) × (new ≡ room_after g old)
write-given h =
    let i = h.as_seen in (
      sym i.2 ∙ h.ensured.0 ∙ ap₂ (λ (x : Lists) (y : List ℕ). wrote_of x (length y)) i.0 i.1,
      sym i.3 ∙ h.ensured.1 ∙ ap₂ room_after i.0 i.1,
    )

pub bounds-given : {s : List ℕ} {b : Bounded} → BoundsGives s b → BoundsOf s b
bounds-given h = rw (← h.as_seen.0, ← h.as_seen.1) h.ensured

pub second-given : {s : List ℕ} {r : Seconded} → SecondGives s r → SecondOf s r
second-given h = rw (← h.as_seen.0, ← h.as_seen.1) h.ensured

pub path-given : {s old new : List ℕ} {p : Pathed} → PathGives s old p new → PathOf s old p new
path-given h = let i = h.as_seen in rw (← i.0, ← i.1, ← i.2, ← i.3) h.ensured

pub gains-given : {s old new : List ℕ} {g : Gained} → GainsGives s old g new → GainsOf s old g new
gains-given h = let i = h.as_seen in rw (← i.0, ← i.1, ← i.2, ← i.3) h.ensured

pub altered-given : {s old new : List ℕ} {v x : ℕ} {g : Gained} → AlteredGives s v x old g new → AlteredOf s v x old g new
altered-given h = let i = h.as_seen in rw (← i.0, ← i.1, ← i.2, ← i.3, ← i.4, ← i.5) h.ensured

pub start-given : {s e : List ℕ} {r : Started} → StartGives s e r → r ≡ start_of s e
start-given h = let i = h.as_seen in sym i.2 ∙ h.ensured ∙ ap₂ start_of i.0 i.1

pub tick-given : {s : List ℕ} {r : Run} {t : Ticked} → TickGives s r t → t ≡ tick_of s r
tick-given h = let i = h.as_seen in sym i.2 ∙ h.ensured ∙ ap₂ tick_of i.0 i.1

pub tick_in_place-given : {s : List ℕ} {r r' : Run} {x : Report} → TickInPlaceGives s r x r' → record { report = x; run = r' } ≡ tick_of s r
tick_in_place-given h =
    let i = h.as_seen in
    ap₂ (λ (y : Report) (q : Run). record { report = y; run = q }) (sym i.2 ∙ h.ensured.1) (sym i.3 ∙ h.ensured.0) ∙ ap₂ tick_of i.0 i.1

pub run-given : {s e old new : List ℕ} {p : Played} → RunGives s e old p new → (p ≡ play_of s e (length old)) × (new ≡ finishes_of s e old)
run-given h = let i = h.as_seen in rw (← i.0, ← i.1, ← i.2, ← i.3, ← i.4) h.ensured

-- ---- for C and Rust

pub planner_read-given : {s : List ℕ} {r : PlannerGraph} → PlannerReadGives s r → r ≡ coded_graph_of (read_of s)
planner_read-given h = sym h.as_seen.1 ∙ h.ensured ∙ ap (λ (s : List ℕ). coded_graph_of (read_of s)) h.as_seen.0

pub planner_write-given : {g : Lists} {old new : List ℕ} {w : PlannerCount} → PlannerWriteGives g old w new
    → (w ≡ coded_wrote_of (wrote_of g (length old))) × (new ≡ room_after g old)
planner_write-given h =
    let i = h.as_seen in (
      sym i.2 ∙ h.ensured.0 ∙ ap₂ (λ (x : Lists) (y : List ℕ). coded_wrote_of (wrote_of x (length y))) i.0 i.1,
      sym i.3 ∙ h.ensured.1 ∙ ap₂ room_after i.0 i.1,
    )

pub planner_bounds-given : {s : List ℕ} {b : PlannerBounds} → PlannerBoundsGives s b → BoundsCoded s b
planner_bounds-given h = rw (← h.as_seen.0, ← h.as_seen.1) h.ensured

pub planner_second-given : {s : List ℕ} {r : PlannerSecond} → PlannerSecondGives s r → SecondCoded s r
planner_second-given h = rw (← h.as_seen.0, ← h.as_seen.1) h.ensured

pub planner_path-given : {s old new : List ℕ} {p : PlannerCount} → PlannerPathGives s old p new → PathCoded s old p new
planner_path-given h = let i = h.as_seen in rw (← i.0, ← i.1, ← i.2, ← i.3) h.ensured

pub planner_gains-given : {s old new : List ℕ} {g : PlannerCount} → PlannerGainsGives s old g new → GainsCoded s old g new
planner_gains-given h = let i = h.as_seen in rw (← i.0, ← i.1, ← i.2, ← i.3) h.ensured

pub planner_altered-given : {s old new : List ℕ} {v x : ℕ} {g : PlannerCount} → PlannerAlteredGives s v x old g new → AlteredCoded s v x old g new
planner_altered-given h = let i = h.as_seen in rw (← i.0, ← i.1, ← i.2, ← i.3, ← i.4, ← i.5) h.ensured

pub planner_start-given : {s e : List ℕ} {r : PlannerRun} → PlannerStartGives s e r → r ≡ coded_start_of (start_of s e)
planner_start-given h = let i = h.as_seen in rw (← i.0, ← i.1, ← i.2) h.ensured

pub planner_tick-given : {s : List ℕ} {r : Run} {t : PlannerTick} → PlannerTickGives s r t → t ≡ coded_tick_of (tick_of s r)
planner_tick-given h = let i = h.as_seen in rw (← i.0, ← i.1, ← i.2) h.ensured

pub planner_tick_in_place-given : {s : List ℕ} {r r' : Run} {x : PlannerMoved} → PlannerTickInPlaceGives s r x r'
    → (r' ≡ (tick_of s r).run) × (x ≡ coded_report_of (tick_of s r).report)
planner_tick_in_place-given h = let i = h.as_seen in rw (← i.0, ← i.1, ← i.2, ← i.3) h.ensured

pub planner_run-given : {s e old new : List ℕ} {p : PlannerFinish} → PlannerRunGives s e old p new
    → (p ≡ coded_play_of (play_of s e (length old))) × (new ≡ finishes_of s e old)
planner_run-given h = let i = h.as_seen in rw (← i.0, ← i.1, ← i.2, ← i.3, ← i.4) h.ensured

pub late-given : {s e : List ℕ} {d : ℕ} {r : Lateness} → LateGives s e d r → LateOf s e d r
late-given h = let i = h.as_seen in rw (← i.0, ← i.1, ← i.2, ← i.3) h.ensured

pub enough-given : {s : List ℕ} {k d : ℕ} {r : Fewest} → EnoughGives s k d r → EnoughOf s k d r
enough-given h = let i = h.as_seen in rw (← i.0, ← i.1, ← i.2, ← i.3) h.ensured

pub planner_late-given : {s e : List ℕ} {d : ℕ} {r : PlannerLate} → PlannerLateGives s e d r → LateCoded s e d r
planner_late-given h = let i = h.as_seen in rw (← i.0, ← i.1, ← i.2, ← i.3) h.ensured

pub worse-given : {g h : Graph} {p : Point} → WorseGives g h p → p ≡ point_of g h
worse-given w = let i = w.as_seen in sym i.2 ∙ w.ensured ∙ ap₂ point_of i.0 i.1

pub lanes_given : {l kind cores old new : List ℕ} {n : ℕ} → LanesGives l n kind cores old new → new ≡ lanes_of n l (listed kind) (listed cores) ++ drop (records l) old
lanes_given h = let i = h.as_seen in rw (← i.0, ← i.1, ← i.2, ← i.3, ← i.4, ← i.5) h.ensured

pub replay-given : {s l old new : List ℕ} {r : Replayed} → ReplayGives s l old r new → (r ≡ replay_of s l (length old)) × (new ≡ times_after_of s l old)
replay-given h = let i = h.as_seen in rw (← i.0, ← i.1, ← i.2, ← i.3, ← i.4) h.ensured

pub log-given : {s e old new : List ℕ} {w : Wrote} → LogGives s e old w new → (w ≡ logged_of s e (length old)) × (new ≡ log_room s e old)
log-given h = let i = h.as_seen in rw (← i.0, ← i.1, ← i.2, ← i.3, ← i.4) h.ensured

pub planner_replay-given : {s l old new : List ℕ} {r : PlannerFinish} → PlannerReplayGives s l old r new
    → (r ≡ coded_replay_of (replay_of s l (length old))) × (new ≡ times_after_of s l old)
planner_replay-given h = let i = h.as_seen in rw (← i.0, ← i.1, ← i.2, ← i.3, ← i.4) h.ensured

pub planner_log-given : {s e old new : List ℕ} {w : PlannerCount} → PlannerLogGives s e old w new
    → (w ≡ coded_wrote_of (logged_of s e (length old))) × (new ≡ log_room s e old)
planner_log-given h = let i = h.as_seen in rw (← i.0, ← i.1, ← i.2, ← i.3, ← i.4) h.ensured

pub stg_read-given : {t cores kinds old new : List ℕ} {w : Wrote} → StgReadGives t cores kinds old w new
    → (w ≡ read_stg_of t cores kinds (length old)) × (new ≡ read_room t cores kinds old)
stg_read-given h = let i = h.as_seen in rw (← i.0, ← i.1, ← i.2, ← i.3, ← i.4, ← i.5) h.ensured

pub stg_write-given : {s old new : List ℕ} {w : Wrote} → StgWriteGives s old w new → (w ≡ write_stg_of s (length old)) × (new ≡ write_room s old)
stg_write-given h = let i = h.as_seen in rw (← i.0, ← i.1, ← i.2, ← i.3) h.ensured

pub planner_stg_read-given : {t cores kinds old new : List ℕ} {w : PlannerCount} → PlannerStgReadGives t cores kinds old w new
    → (w ≡ coded_wrote_of (read_stg_of t cores kinds (length old))) × (new ≡ read_room t cores kinds old)
planner_stg_read-given h = let i = h.as_seen in rw (← i.0, ← i.1, ← i.2, ← i.3, ← i.4, ← i.5) h.ensured

pub planner_stg_write-given : {s old new : List ℕ} {w : PlannerCount} → PlannerStgWriteGives s old w new
    → (w ≡ coded_wrote_of (write_stg_of s (length old))) × (new ≡ write_room s old)
planner_stg_write-given h = let i = h.as_seen in rw (← i.0, ← i.1, ← i.2, ← i.3) h.ensured

pub mend-given : {s old list new list' : List ℕ} {m : Mended} → MendGives s old list m new list'
    → (m ≡ mend_of s (length old) (length list)) × (new ≡ file_after s old list) × (list' ≡ list_after_of s old list)
mend-given h = let i = h.as_seen in rw (← i.0, ← i.1, ← i.2, ← i.3, ← i.4, ← i.5) h.ensured

pub planner_mend-given : {s old list new list' : List ℕ} {m : PlannerMended} → PlannerMendGives s old list m new list'
    → (m ≡ coded_mend_of (mend_of s (length old) (length list))) × (new ≡ file_after s old list) × (list' ≡ list_after_of s old list)
planner_mend-given h = let i = h.as_seen in rw (← i.0, ← i.1, ← i.2, ← i.3, ← i.4, ← i.5) h.ensured

pub planner_enough-given : {s : List ℕ} {k d : ℕ} {r : PlannerEnough} → PlannerEnoughGives s k d r → EnoughCoded s k d r
planner_enough-given h = let i = h.as_seen in rw (← i.0, ← i.1, ← i.2, ← i.3) h.ensured
