-- The schedule that a log records (document 02, order 7: "A vertex's execution time is its total; one absent took 0").
--
--   last_instant l       the largest instant of the log; 0 where it is empty
--   started_by l v t i   record i is a start of v, at or before the instant t
--   stopped_by l v t j   record j is a stop of v, at or before the instant t
--   runs_in l t v        v runs in the tick t: a start of v at or before t has no stop of v after it up to t
--   ran_ticks l v t      in how many ticks before the instant t v runs
--   total l v           in how many ticks v runs           (proofs/Recording: none of them is from the last instant on)
--   schedule_of l        the schedule: these times, and who runs in which tick
--   finish_in_of G l        the first instant at which all vertices of G are finished; one up to the log's last, or that
--                       (proofs/Finishing: it is the schedule's finish, and it is the last instant)
use Rattle.std.specs.Prelude.{Bool, not, ◌&&◌, List, ℕ, ltb, leb}
use Rattle.model.specs.Places.{any, first, every, count, largest}
use Rattle.model.specs.Graph.{Graph}
use Rattle.model.specs.Schedule.{Schedule, left}
use Rattle.model.specs.ListSchedule.{finished}
use Rattle.graph.specs.File.{records}
use Rattle.recorded.specs.Log.{instant_at, starts, stops}

unfoldable pub last_instant : List ℕ → ℕ
last_instant l = largest (instant_at l) (records l)

unfoldable pub started_by : List ℕ → ℕ → ℕ → ℕ → Bool
started_by l v t i = starts l v i && leb (instant_at l i) t

unfoldable pub stopped_by : List ℕ → ℕ → ℕ → ℕ → Bool
stopped_by l v t j = stops l v j && leb (instant_at l j) t

unfoldable pub runs_in : List ℕ → ℕ → ℕ → Bool
runs_in l t v = any (λ i. started_by l v t i && not (any (λ j. ltb i j && stopped_by l v t j) (records l))) (records l)

unfoldable pub ran_ticks : List ℕ → ℕ → ℕ → ℕ
ran_ticks l v t = count (λ i. runs_in l i v) t

unfoldable pub total : List ℕ → ℕ → ℕ
total l v = ran_ticks l v (last_instant l)

unfoldable pub schedule_of : List ℕ → Schedule
schedule_of l = record { time = total l; runs = runs_in l }

unfoldable pub finish_in_of : Graph → List ℕ → ℕ
finish_in_of G l = first (λ t. every (finished G (left (schedule_of l) t)) G.n) (last_instant l)
