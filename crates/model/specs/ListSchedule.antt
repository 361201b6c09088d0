-- The list schedule (document 01, "Schedules"): a ready vertex that ran in the tick before runs on; free cores then go to the
-- lowest numbered ready vertices of the kind. It computes: the step from one instant to the next is a function.
--
--   finished G c v     Finished as a test: it looks back along the edges, N of them at most     (proofs/Tests: it tells Finished)
--   ready G c v        Ready as a test                                                          (proofs/Tests: it tells Ready)
--   State              what is left of each vertex, and which ran in the tick before and are unfinished
--   goes_on_next G s k v     of kind k, ready, and ran in the tick before
--   waits G s k v      of kind k, ready, and did not
--   chosen G s v       v runs in the tick that begins at the state s
--   step G s           the state one tick later
--   begin e            the state at instant 0 with the times e
--   steps G t s        the state t ticks later
--   list_schedule G e   the list schedule of G with the times e
--   Fair G s           no more vertices of a kind are marked than it has cores
--   leap G d s         the state after d ticks in which the same vertices run   (proofs/Leap: d steps, while none of them finishes before)
use Rattle.std.specs.Prelude.{Bool, false, not, ◌&&◌, ◌||◌, ℕ, zero, suc, ◌-◌, ◌≤◌, ◌<◌, eqb, ltb}
use Rattle.model.specs.Places.{pick, count, every}
use Rattle.model.specs.Graph.{Graph}
use Rattle.model.specs.Schedule.{Schedule}

-- v is finished, looking at most k edges back
unfoldable pub finished_within : Graph → (ℕ → ℕ) → ℕ → ℕ → Bool
finished_within G c zero v = false
finished_within G c (suc k) v = eqb (c v) 0 && every (λ u. not (G.edge u v) || finished_within G c k u) G.n

unfoldable pub finished : Graph → (ℕ → ℕ) → ℕ → Bool
finished G c v = finished_within G c G.n v

unfoldable pub ready : Graph → (ℕ → ℕ) → ℕ → Bool
ready G c v = not (finished G c v) && every (λ u. not (G.edge u v) || finished G c u) G.n

pub record State : Type 0 where
  pub rest : ℕ → ℕ
  pub ran : ℕ → Bool

unfoldable pub goes_on_next : Graph → State → ℕ → ℕ → Bool
goes_on_next G s k v = (ready G s.rest v && s.ran v) && eqb (G.kind v) k

unfoldable pub waits : Graph → State → ℕ → ℕ → Bool
waits G s k v = (ready G s.rest v && not (s.ran v)) && eqb (G.kind v) k

-- the cores that are free for a vertex of kind k are those that no vertex goes on with
unfoldable pub chosen : Graph → State → ℕ → Bool
chosen G s v =
    ready G s.rest v
    && (s.ran v || ltb (count (waits G s (G.kind v)) v) (G.cores (G.kind v) - count (goes_on_next G s (G.kind v)) G.n))

unfoldable pub leap : Graph → ℕ → State → State
leap G d s = record {
  rest = λ v. s.rest v - pick (chosen G s v) d 0;
  ran = λ v. chosen G s v && ltb 0 (s.rest v - pick (chosen G s v) d 0);
}

abbrev pub step : Graph → State → State
step G s = leap G 1 s

abbrev pub begin : (ℕ → ℕ) → State
begin e = record { rest = e; ran = λ v. false }

unfoldable pub steps : Graph → ℕ → State → State
steps G zero s = s
steps G (suc t) s = step G (steps G t s)

unfoldable pub list_schedule : Graph → (ℕ → ℕ) → Schedule
list_schedule G e = record { time = e; runs = λ t. chosen G (steps G t (begin e)) }

abbrev pub Fair : Graph → State → Type 0
Fair G s = (k : ℕ) → k < G.kinds → count (λ v. s.ran v && eqb (G.kind v) k) G.n ≤ G.cores k
