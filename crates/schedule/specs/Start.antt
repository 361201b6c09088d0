-- Starting a run (document 01, "Schedules"). The times are judged as `times` says, specs/Times.
--
--   Started                the answer, and the record at instant 0
--   no_run                 zero and unmarked throughout: what stands beside a refusal
--   started r              what `start` gives, as the answer and the record beside it
--   started_on g e         the answer and record for the graph g
--   start_of s e           what `start` gives for the file s
use Rattle.std.specs.Prelude.{Result, Ok, Err}
use Rattle.std.specs.Prelude.{List, ℕ, replicate}
use Rattle.model.specs.ListSchedule.{begin}
use Rattle.graph.specs.Judge.{read_of}
use Rattle.graph.specs.Model.{as_model}
use Rattle.graph.specs.declared.Graph.{Graph}
use Rattle.graph.specs.declared.Refusal.{Refusal}
use Rattle.graph.specs.Answer.{Answer}
use Rattle.graph.specs.Answer.{Accepted, Refused}
use Rattle.tick.specs.declared.Run.{Run}
use Rattle.tick.specs.Run.{record_for}
use Rattle.times.specs.Times.{times_of, judge_times}

pub record Started : Type 0 where
  pub answer : Answer
  pub run : Run

unfoldable pub no_run : Run
no_run = record { n = 0; instant = 0; left = replicate 128 0; ran = record { lo = 0; hi = 0 }; waiting = replicate 128 0 }

abbrev pub refused_start_of : Refusal → Started
refused_start_of r = record { answer = Refused r; run = no_run }

abbrev pub started : Result Run Refusal → Started
started (Ok r) = record { answer = Accepted; run = r }
started (Err r) = refused_start_of r

abbrev pub start_beside : Answer → Graph → List ℕ → Started
start_beside (Ok _) g e = record { answer = Accepted; run = record_for (as_model g) 0 (begin (times_of e)) }
start_beside (Err r) g e = refused_start_of r

unfoldable pub started_on : Graph → List ℕ → Started
started_on g e = start_beside (judge_times g e) g e

abbrev pub start_after : Answer → Graph → List ℕ → Started
start_after (Ok _) g e = started_on g e
start_after (Err r) g e = refused_start_of r

unfoldable pub start_of : List ℕ → List ℕ → Started
start_of s e = start_after (read_of s).answer (read_of s).graph e
