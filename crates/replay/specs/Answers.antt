-- The replay of a log l for a file s (document 02, order 7: "hand back finish and times"). The log is judged as `recorded` says, specs/Judge,
-- after the file; the finish and the times are those of the schedule that it records, specs/Recorded.
--
--   replay_on_of g l room       what is answered for the graph g: the finish, where the log is accepted
--   replay_of s l room       what is answered for the file s: 1 to 11 as the reader gives them, before any other number
--   of_replayed p            the answer in document 01's numbers: its value is the finish
--   times_beside p g l old   the lent list, which held old, beside the answer p: the times of the vertices, and past N what it held
--   times_after_of s l old      what the lent list holds at the end
use Rattle.std.specs.Prelude.{Ok, Err}
use Rattle.std.specs.Prelude.{List, ◌++◌, ℕ, length, drop}
use Rattle.model.specs.Places.{table}
use Rattle.graph.specs.Judge.{read_of}
use Rattle.graph.specs.Model.{as_model}
use Rattle.graph.specs.Said.{Said, said_no}
use Rattle.graph.specs.declared.Graph.{Graph}
use Rattle.graph.specs.Answer.{Answer}
use Rattle.recorded.specs.Recorded.{total, finish_in_of}
use Rattle.recorded.specs.Judge.{judge_log}
use Rattle.replay.specs.Replayed.{Replayed}
use Rattle.replay.specs.Replayed.{Finish, Refused}

abbrev pub replay_beside : Answer → Graph → List ℕ → Replayed
replay_beside (Ok _) g l = Finish (record { 0 = finish_in_of (as_model g) l })
replay_beside (Err r) g l = Refused r

unfoldable pub replay_on_of : Graph → List ℕ → ℕ → Replayed
replay_on_of g l room = replay_beside (judge_log (as_model g) l room) g l

abbrev pub replay_after : Answer → Graph → List ℕ → ℕ → Replayed
replay_after (Ok _) g l room = replay_on_of g l room
replay_after (Err r) g l room = Refused r

unfoldable pub replay_of : List ℕ → List ℕ → ℕ → Replayed
replay_of s l room = replay_after (read_of s).answer (read_of s).graph l room

abbrev pub of_replayed : Replayed → Said
of_replayed (Ok t) = record { number = 0; place = 0; value = t.0 }
of_replayed (Err r) = said_no r

abbrev pub times_beside : Replayed → Graph → List ℕ → List ℕ → List ℕ
times_beside (Ok t) g l old = table (total l) g.n ++ drop g.n old
times_beside (Err r) g l old = old

unfoldable pub times_after_of : List ℕ → List ℕ → List ℕ → List ℕ
times_after_of s l old = times_beside (replay_of s l (length old)) (read_of s).graph l old
