-- A whole run (document 01: "A whole run fills a list with each vertex's finish instant and returns the finish"). The finish and the
-- instants are those of `leaps`, specs/Finishes.
--
--   play_in g e m           what is returned where the times fit and the lent list has m places: 15 where they are fewer than N
--   play_on_of g e m           the same, with 13 and 14 before
--   play_of s e m           what `run` returns for the file s
--   of_played p             the answer in document 01's numbers: its value is the finish
--   filled_beside p g e l   the lent list, which held l, beside the answer p: places past N keep what they held
--   finishes_of s e l       what the lent list holds at the end
use Rattle.std.specs.Prelude.{Ok, Err}
use Rattle.std.specs.Prelude.{List, ◌++◌, ℕ, ltb, length, drop}
use Rattle.model.specs.Places.{pick, table}
use Rattle.graph.specs.Judge.{read_of}
use Rattle.graph.specs.Model.{as_model}
use Rattle.graph.specs.Said.{Said, said_no}
use Rattle.graph.specs.declared.Graph.{Graph}
use Rattle.graph.specs.Answer.{Answer}
use Rattle.leaps.specs.Finishes.{finish_at, finish_of}
use Rattle.times.specs.Times.{times_of, judge_times}
use Rattle.schedule.specs.Played.{Played}
use Rattle.schedule.specs.Played.{Finish, Refused}

unfoldable pub play_in : Graph → List ℕ → ℕ → Played
play_in g e m = pick (ltb m g.n) (Refused (record { number = 15; place = 0 })) (Finish (record { 0 = finish_of (as_model g) (times_of e) }))

abbrev pub play_beside : Answer → Graph → List ℕ → ℕ → Played
play_beside (Ok _) g e m = play_in g e m
play_beside (Err r) g e m = Refused r

unfoldable pub play_on_of : Graph → List ℕ → ℕ → Played
play_on_of g e m = play_beside (judge_times g e) g e m

abbrev pub play_after : Answer → Graph → List ℕ → ℕ → Played
play_after (Ok _) g e m = play_on_of g e m
play_after (Err r) g e m = Refused r

unfoldable pub play_of : List ℕ → List ℕ → ℕ → Played
play_of s e m = play_after (read_of s).answer (read_of s).graph e m

abbrev pub of_played : Played → Said
of_played (Ok t) = record { number = 0; place = 0; value = t.0 }
of_played (Err r) = said_no r

abbrev pub filled_beside : Played → Graph → List ℕ → List ℕ → List ℕ
filled_beside (Ok t) g e l = table (finish_at (as_model g) (times_of e)) g.n ++ drop g.n l
filled_beside (Err r) g e l = l

unfoldable pub finishes_of : List ℕ → List ℕ → List ℕ → List ℕ
finishes_of s e l = filled_beside (play_of s e (length l)) (read_of s).graph e l
