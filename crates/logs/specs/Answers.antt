-- The log of a run, for a file s, times e and a lent room (order 7: "The log of a list schedule, as a definition, and as an entry `log`
-- (file, times, lent bytes): the log of the run with these times, its length in bytes; refusals of a run (1 to 11, 13, 14), 15 for room
-- below the log's length"). The log is that of `recorded`, specs/LogOf; the times are judged as `times` says, specs/Times; an answer in
-- bytes is the writer's, specs/Write: with `wrote_by` 15 where there is less room, with `room_by` the bytes and then what stood past them,
-- or beside a refusal what stood there.
--
--   log_for g e             the log of the graph g with the times e
--   logged_in g e room      the answer where the times fit and so many bytes are lent
--   logged_on g e room      the same, with 13 and 14 before
--   logged_of s e room      what `log` returns for the file s: the reader's refusals come first
--   log_room s e out        what the lent room, which held out, holds at the end
use Rattle.std.specs.Prelude.{Ok, Err}
use Rattle.std.specs.Prelude.{List, ℕ, length}
use Rattle.graph.specs.Judge.{read_of}
use Rattle.graph.specs.Model.{as_model}
use Rattle.graph.specs.declared.Graph.{Graph}
use Rattle.graph.specs.Answer.{Answer}
use Rattle.graph.specs.Answer as answers
use Rattle.times.specs.Times.{times_of, judge_times}
use Rattle.recorded.specs.LogOf.{log_of}
use Rattle.writer.specs.Write.{wrote_by, room_by}
use Rattle.writer.specs.Wrote.{Wrote}
use Rattle.writer.specs.Wrote.{Refused}

unfoldable pub log_for : Graph → List ℕ → List ℕ
log_for g e = log_of (as_model g) (times_of e)

unfoldable pub logged_in : Graph → List ℕ → ℕ → Wrote
logged_in g e room = wrote_by answers.Accepted (length (log_for g e)) room

unfoldable pub logged_on : Graph → List ℕ → ℕ → Wrote
logged_on g e room = wrote_by (judge_times g e) (length (log_for g e)) room

abbrev pub logged_after : Answer → Graph → List ℕ → ℕ → Wrote
logged_after (Ok _) g e room = logged_on g e room
logged_after (Err r) g e room = Refused r

unfoldable pub logged_of : List ℕ → List ℕ → ℕ → Wrote
logged_of s e room = logged_after (read_of s).answer (read_of s).graph e room

unfoldable pub log_room : List ℕ → List ℕ → List ℕ → List ℕ
log_room s e out = room_by (logged_of s e (length out)) (log_for (read_of s).graph e) out
