-- The answers of a run as C sees them.
--
--   coded_start_of, coded_play_of     the answers of `start` and `run`
--   coded_finish_of r             a finish, or a refusal
--   coded_report_of x             what a tick reports
--   coded_tick_of                 the answer of `tick`
--   coded_replay_of               the answer of `replay`
--   coded_late_of                 the answer of `late`: yes is 1, no 0
--   LateCoded s e d r         r is the coded answer of `late` for the file s, the times e and the tick d
use Rattle.std.specs.Prelude.{◌≡◌, List, ℕ, Result, Ok, Err}
use Rattle.units.specs.declared.Ticks.{Ticks}
use Rattle.graph.specs.declared.Refusal.{Refusal}
use Rattle.model.specs.Places.{bit}
use Rattle.graph.specs.Said.{of_answer}
use Rattle.late.specs.Answers.{LateOf}
use Rattle.late.specs.Lateness.{Lateness}
use Rattle.replay.specs.Replayed.{Replayed}
use Rattle.replay.specs.Answers.{of_replayed}
use Rattle.schedule.specs.Start.{Started}
use Rattle.schedule.specs.Played.{Played}
use Rattle.schedule.specs.Whole.{of_played}
use Rattle.tick.specs.Report.{Report}
use Rattle.tick.specs.Run.{of_report}
use Rattle.tick.specs.declared.Ticked.{Ticked}
use Rattle.codes.specs.declared.PlannerRun.{PlannerRun}
use Rattle.codes.specs.declared.PlannerMoved.{PlannerMoved}
use Rattle.codes.specs.declared.PlannerTick.{PlannerTick}
use Rattle.codes.specs.declared.PlannerFinish.{PlannerFinish}
use Rattle.codes.specs.declared.PlannerLate.{PlannerLate}

abbrev pub coded_start_of : Started → PlannerRun
coded_start_of s = record { number = (of_answer s.answer).number; place = (of_answer s.answer).place; run = s.run }

abbrev pub coded_report_of : Report → PlannerMoved
coded_report_of x = record { number = (of_report x).number; place = (of_report x).place; moved = (of_report x).value }

abbrev pub coded_tick_of : Ticked → PlannerTick
coded_tick_of t = record {
  number = (coded_report_of t.report).number;
  place = (coded_report_of t.report).place;
  moved = (coded_report_of t.report).moved;
  run = t.run;
}

-- the finish of a run, or of a log that is replayed
abbrev pub coded_finish_of : Result Ticks Refusal → PlannerFinish
coded_finish_of (Ok t) = record { number = 0; place = 0; finish = t.0 }
coded_finish_of (Err r) = record { number = r.number; place = r.place; finish = 0 }

abbrev pub coded_play_of : Played → PlannerFinish
coded_play_of p = record { number = (of_played p).number; place = (of_played p).place; finish = (of_played p).value }

abbrev pub coded_replay_of : Replayed → PlannerFinish
coded_replay_of p = record { number = (of_replayed p).number; place = (of_replayed p).place; finish = (of_replayed p).value }

abbrev pub coded_late_of : Lateness → PlannerLate
coded_late_of r = record { number = (of_answer r.answer).number; place = (of_answer r.answer).place; yes = bit r.yes; played = r.played.0 }

pub record LateCoded (s e : List ℕ) (d : ℕ) (r : PlannerLate) : Type 0 where
  pub told : Lateness
  pub of : LateOf s e d told
  pub coded : r ≡ coded_late_of told
