-- Schedules (document 003, definition 2.1; document 01, "Schedules").
--
-- A schedule says how many ticks each vertex takes and which vertices run in each tick, the tick t going from the instant t
-- to t + 1. A vertex may be set aside and resumed at any instant. Finished and ready are said of what is left of each vertex,
-- c, so that they can be said of a run record too.
--
--   Schedule                  the times, and which vertices run in which tick
--   left S t v                how many ticks of v are left at the instant t
--   Finished G c v            v has run its ticks and all its predecessors are finished
--   Ready G c v               v is unfinished, with all predecessors finished
--   Times G e                 no execution time is above its WCET
--   WorkConserving G S        in each tick, of each kind, as many ready vertices run as the smaller of its cores and the number ready
--   FinishOf G S v F          F is the first instant at which v is finished
--   AllFinished G S t         every vertex is finished at the instant t
--   Finish G S F              F is the first instant at which all vertices are finished
--   EndsBy G S B              S ends, and at or before B parts
use Rattle.std.specs.Prelude.{◌≡◌, Bool, true, ◌&&◌, ℕ, zero, suc, ◌-◌, ◌*◌, ◌/◌, ◌≤◌, ◌<◌, min, eqb}
use Rattle.model.specs.Places.{bit, count, Tells}
use Rattle.model.specs.Graph.{Graph, Edge}
use Rattle.model.specs.Bounds.{PARTS}

pub record Schedule : Type 0 where
  pub time : ℕ → ℕ
  pub runs : ℕ → ℕ → Bool

unfoldable pub left : Schedule → ℕ → ℕ → ℕ
left S zero v = S.time v
left S (suc t) v = left S t v - bit (S.runs t v)

pub data Finished (G : Graph) (c : ℕ → ℕ) : ℕ → Type 0 where
  done : {v : ℕ} → c v ≡ 0 → ((u : ℕ) → Edge G u v → Finished G c u) → Finished G c v

pub record Ready (G : Graph) (c : ℕ → ℕ) (v : ℕ) : Type 0 where
  pub unfinished : Finished G c v → ⊥
  pub before : (u : ℕ) → Edge G u v → Finished G c u

abbrev pub Times : Graph → (ℕ → ℕ) → Type 0
Times G e = (v : ℕ) → v < G.n → e v ≤ G.wcet v

-- "the number ready" is counted by any test that tells which vertices are ready
pub record WorkConserving (G : Graph) (S : Schedule) : Type 0 where
  pub runs_ready : (t v : ℕ) → v < G.n → S.runs t v ≡ true → Ready G (left S t) v
  pub busy : (t s : ℕ) → s < G.kinds → (ready : ℕ → Bool) → Tells G.n (Ready G (left S t)) ready
      → count (λ v. S.runs t v && eqb (G.kind v) s) G.n ≡ min (G.cores s) (count (λ v. ready v && eqb (G.kind v) s) G.n)

pub record FinishOf (G : Graph) (S : Schedule) (v F : ℕ) : Type 0 where
  pub there : Finished G (left S F) v
  pub first : (t : ℕ) → t < F → Finished G (left S t) v → ⊥

abbrev pub AllFinished : Graph → Schedule → ℕ → Type 0
AllFinished G S t = (v : ℕ) → v < G.n → Finished G (left S t) v

pub record Finish (G : Graph) (S : Schedule) (F : ℕ) : Type 0 where
  pub all : AllFinished G S F
  pub first : (t : ℕ) → t < F → AllFinished G S t → ⊥

-- all is finished at the instant B / PARTS, rounded down; so there is a finish, and whatever is the finish is within B
pub record EndsBy (G : Graph) (S : Schedule) (B : ℕ) : Type 0 where
  pub all : AllFinished G S (B / PARTS)
  pub finish : ℕ
  pub is_finish : Finish G S finish
  pub within : (F : ℕ) → Finish G S F → F * PARTS ≤ B
