-- In the list schedule a vertex that has a time runs in one interval, which ends at its finish instant: so it starts that many ticks before.
use mathlib.Core.Path.{◌≡◌, refl}
use mathlib.Core.Logic.{◌⊎◌, inl, inr, ⊎_elim}
use mathlib.Core.Bool.{true, false, not}
use Prim.Native.Nat.{ℕ, zero, suc, ◌+◌, ◌-◌, ◌≤◌, ◌<◌}
use native.Mathlib.Omega.{arith}
use native.Mathlib.Decide.{ℕ_discrete}
use Rattle.model.specs.Places.{count}
use Rattle.model.specs.Graph.{Graph, WellFormed}
use Rattle.model.specs.Cycle.{Acyclic}
use Rattle.model.specs.Schedule.{Schedule, left, done, FinishOf, WorkConserving}
use Rattle.model.specs.ListSchedule.{list_schedule}
use Rattle.model.proofs.Bools.{cases, clash, le-or-lt, both, true-not, not-true, bit-zero}
use Rattle.model.proofs.Turns.{count-from}
use Rattle.model.proofs.Finished.{fin_left, fin_later, left-later, ready-left}
use Rattle.model.proofs.Listed.{list_works}
use Rattle.recorded.specs.LogOf.{ran_before, starts_at, stops_at_of}
use Rattle.recorded.proofs.Changes.{start-runs, start-fresh, stop-ran, Began, began}
use Rattle.recorded.proofs.ListLog.{ran-left, starts-once, stops-once, runs-between}

-- v starts and stops there
pub record Interval (S : Schedule) (v start stop : ℕ) : Type 0 where
  pub starts : starts_at S start v ≡ true
  pub stops : stops_at_of S stop v ≡ true

module _ {G : Graph} (W : WellFormed G) (A : Acyclic G) (e : ℕ → ℕ) (v : ℕ) (b : v < G.n) where
  abbrev S : Schedule
  S = list_schedule G e

  C : WorkConserving G S
  C = list_works W A e

  at_first : left S 0 v ≡ e v
  unfolding left list_schedule
  at_first = refl

  -- what has a tick less left than its time has run
  has-run : (t : ℕ) → left S t v < e v → (a : ℕ) × (a < t) × (S.runs a v ≡ true)
  has-run zero h = absurd (omega (arith, at_first))
  has-run (suc t) h = go (cases (S.runs t v)) (has-run t)
    where
      go : (S.runs t v ≡ true) ⊎ (S.runs t v ≡ false) → (left S t v < e v → (a : ℕ) × (a < t) × (S.runs a v ≡ true))
          → (a : ℕ) × (a < suc t) × (S.runs a v ≡ true)
      go (inl x) ih = (t, omega arith, x)
      go (inr x) ih =
          let q : left S (suc t) v ≡ left S t v = unfold left in omega (arith, bit-zero (S.runs t v) x) in
          let r = ih (omega arith) in
          (r.0, omega (arith, r.1), r.2)

  module _ (F : ℕ) (f : FinishOf G S v F) where
    module _ (some : 0 < e v) where
      last : (t : ℕ) × (F ≡ suc t)
      last = go F refl
        where
          go : (x : ℕ) → F ≡ x → (t : ℕ) × (F ≡ suc t)
          go zero q = absurd (omega (arith, at_first, fin_left (rw q at f.there)))
          go (suc t) q = (t, q)

      -- it runs in the last tick: it would be finished before otherwise
      runs_last : S.runs last.0 v ≡ true
      runs_last = go (cases (S.runs last.0 v))
        where
          go : (S.runs last.0 v ≡ true) ⊎ (S.runs last.0 v ≡ false) → S.runs last.0 v ≡ true
          go (inl x) = x
          go (inr x) = absurd (f.first last.0 (omega (arith, last.1)) (done none (λ u d. fin_later S r.0 last.0 (omega (arith, r.1)) ((C.runs_ready r.0 v b r.2).before u d))))
            where
              none : left S last.0 v ≡ 0
              none = unfold left in omega (arith, bit-zero (S.runs last.0 v) x, fin_left (rw last.1 at f.there))

              r : (a : ℕ) × (a < last.0) × (S.runs a v ≡ true)
              r = has-run last.0 (omega (arith, none))

      still : S.runs F v ≡ false
      still = not-true (S.runs F v) (λ x. omega (arith, ready-left (C.runs_ready F v b x), fin_left f.there))

      stops-there : stops_at_of S F v ≡ true
      unfolding stops_at_of ran_before
      stops-there = rw last.1 (both (S.runs last.0 v) (not (S.runs (suc last.0) v)) runs_last (true-not (S.runs (suc last.0) v) (rw last.1 at still)))

      from : Began S last.0 v
      from = began S last.0 v runs_last

      -- not before its start: the ticks in which it runs are an interval
      none_before : (t : ℕ) → t < from.from → S.runs t v ≡ false
      none_before t h = not-true (S.runs t v) (λ x. go from.from refl x)
        where
          go : (a : ℕ) → from.from ≡ a → S.runs t v ≡ true → ⊥
          go zero q x = omega arith
          go (suc a) q x = clash
              (runs-between W A e t a (suc a) v b (omega arith) (omega arith) x (rw q at (start-runs S from.from v from.start)))
              (start-fresh S a v (rw q at from.start))

      long : F ≡ from.from + e v
      long =
          let d : F ≡ from.from + (F - from.from) = omega (arith, from.by, last.1) in
          let c : count (λ t. S.runs t v) (from.from + (F - from.from)) ≡ F - from.from =
          count-from (λ t. S.runs t v) from.from (F - from.from) none_before (λ t x y. from.on t x (omega (arith, last.1, from.by))) in
          let k : count (λ t. S.runs t v) F + left S F v ≡ e v = unfold list_schedule in ran-left W A C F v b in
          omega (arith, fin_left f.there, rw (← d) at c, from.by, last.1)

      -- THEOREM. It runs in the e v ticks before its finish instant, and
      pub interval : (e v ≤ F) × Interval S v (F - e v) F
      interval =
          let q : F - e v ≡ from.from = omega (arith, long) in
          (omega (arith, long), record { starts = rw q from.start; stops = stops-there })

    has_time : (t : ℕ) → S.runs t v ≡ true → 0 < e v
    has_time t x = omega (arith, ready-left (C.runs_ready t v b x), left-later S 0 t v (omega arith), at_first)

    -- starts and stops nowhere else.
    pub start_only : (t : ℕ) → starts_at S t v ≡ true → (0 < e v) × (t ≡ F - e v)
    start_only t x = (some, same (ℕ_discrete t (F - e v)))
      where
        some : 0 < e v
        some = has_time t (start-runs S t v x)

        same : Dec (t ≡ F - e v) → t ≡ F - e v
        same (yes q) = q
        same (no q) = absurd (⊎_elim
            (λ (h : t ≤ F - e v). starts-once W A e t (F - e v) v b (omega arith) x (interval some).1.starts)
            (λ (h : F - e v < t). starts-once W A e (F - e v) t v b h (interval some).1.starts x)
            (le-or-lt t (F - e v)))

    pub stop_only : (t : ℕ) → stops_at_of S t v ≡ true → (0 < e v) × (t ≡ F)
    stop_only t x = (some, same (ℕ_discrete t F))
      where
        some : 0 < e v
        some = let r = stop-ran S t v x in has_time r.0 r.2

        same : Dec (t ≡ F) → t ≡ F
        same (yes q) = q
        same (no q) = absurd (⊎_elim
            (λ (h : t ≤ F). stops-once W A e t F v b (omega arith) x (interval some).1.stops)
            (λ (h : F < t). stops-once W A e F t v b h (interval some).1.stops x)
            (le-or-lt t F))
