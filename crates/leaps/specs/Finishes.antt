-- When a vertex is finished in the list schedule, and when all are (document 01, "Schedules"). It computes. proofs/Finishes: these are
-- the finish instants and the finish of the model's list schedule.
--
--   done_at G e t v    v is finished t ticks after the start with the times e
--   finish_at G e v    the first instant at which v is finished; a run takes no more ticks than there are in all
--   finish_of G e      the finish: the first instant at which all vertices are finished
use Rattle.std.specs.Prelude.{Bool, ℕ}
use Rattle.model.specs.Places.{first, every, sum}
use Rattle.model.specs.Graph.{Graph}
use Rattle.model.specs.ListSchedule.{finished, begin, steps}

unfoldable pub done_at : Graph → (ℕ → ℕ) → ℕ → ℕ → Bool
done_at G e t v = finished G (steps G t (begin e)).rest v

unfoldable pub finish_at : Graph → (ℕ → ℕ) → ℕ → ℕ
finish_at G e v = first (λ t. done_at G e t v) (sum e G.n)

unfoldable pub finish_of : Graph → (ℕ → ℕ) → ℕ
finish_of G e = first (λ t. every (done_at G e t) G.n) (sum e G.n)
