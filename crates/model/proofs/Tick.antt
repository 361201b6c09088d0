-- What one tick of a work-conserving schedule takes off a weighted sum of what is left.
use mathlib.Core.Path.{◌≡◌, refl}
use mathlib.Core.Logic.{◌⊎◌, inl, inr}
use mathlib.Core.Bool.{Bool, true, false, ◌&&◌}
use Prim.Native.Nat.{ℕ, zero, suc, ◌+◌, ◌*◌, ◌/◌, ◌≤◌, ◌<◌}
use native.Mathlib.Nat.{mul-le-mul_right, div_self}
use native.Mathlib.Omega.{arith}
use lib.Dec.{eqb}
use borrow.Author.Tests.{eq-eqb, eqb-true}
use Rattle.model.specs.Places.{sum, bit, count}
use Rattle.model.specs.Graph.{Graph, WellFormed}
use Rattle.model.specs.Cycle.{Acyclic}
use Rattle.model.specs.Schedule.{Schedule, left, Finished, Ready, WorkConserving, AllFinished}
use Rattle.model.specs.ListSchedule.{ready}
use Rattle.model.proofs.Bools.{cases, clash, both, left-of, right_of, bit-one, bit-zero, not-true}
use Rattle.model.proofs.Places.{count_less}
use Rattle.model.proofs.Sums.{sum_drop, sum-drop-count, sum_ext}
use Rattle.model.proofs.Cycles.{ranked}
use Rattle.model.proofs.Paths.{head-known, to_sink}
use Rattle.model.proofs.Finished.{left_step, left-run, to-ready, fin_step, all-finished-or}
use Rattle.model.proofs.Tests.{ready-tells}

pub less : (a b c : ℕ) → a + 1 ≤ b → a * c + c ≤ b * c
less a b c h = omega (arith, mul-le-mul_right c h)

pub falls : (S : Schedule) (w : ℕ → ℕ) (t v : ℕ) → left S (suc t) v * w v ≤ left S t v * w v
falls S w t v = mul-le-mul_right (w v) (left_step S t v)

-- v runs and is of kind s
abbrev pub runs_of : Graph → Schedule → ℕ → ℕ → ℕ → Bool
runs_of G S t s v = S.runs t v && eqb (G.kind v) s

module _ {G : Graph} (W : WellFormed G) (A : Acyclic G) {S : Schedule} (C : WorkConserving G S) (t u : ℕ)
    (r : Ready G (left S t) u) (l : u < G.n) where
  module _ (x : S.runs t u ≡ false) where
    -- a ready vertex that does not run: all cores of its kind are busy
    pub full : count (runs_of G S t (G.kind u)) G.n ≡ G.cores (G.kind u)
    full =
        let R = ready-tells W (left S t) A in
        omega (
          arith,
          C.busy t (G.kind u) (W.kind_known u l) (ready G (left S t)) R,
          count_less (runs_of G S t (G.kind u)) (λ v. ready G (left S t) v && eqb (G.kind v) (G.kind u)) u G.n l
              (λ v k y. both (ready G (left S t) v) (eqb (G.kind v) (G.kind u))
              (R.complete v k (C.runs_ready t v k (left-of (S.runs t v) _ y))) (right_of (S.runs t v) _ y))
              (both (ready G (left S t) u) (eqb (G.kind u) (G.kind u)) (R.complete u l r) (eq-eqb (G.kind u) (G.kind u) refl))
              (not-true (runs_of G S t (G.kind u) u) (λ y. clash (left-of (S.runs t u) _ y) x)),
        )

    -- and the sum falls by a whole tick, where each that runs beside it weighs a core's share
    pub wait-drop : (L : ℕ) (w : ℕ → ℕ) → G.cores (G.kind u) * (L / G.cores (G.kind u)) ≡ L
        → ((v : ℕ) → v < G.n → S.runs t v ≡ true → G.kind v ≡ G.kind u → w v ≡ L / G.cores (G.kind u))
        → sum (λ v. left S (suc t) v * w v) G.n + L ≤ sum (λ v. left S t v * w v) G.n
    wait-drop L w whole h =
        omega (
          arith,
          whole,
          rw full at (sum-drop-count (λ v. left S (suc t) v * w v) (λ v. left S t v * w v) (runs_of G S t (G.kind u)) (L / G.cores (G.kind u)) G.n
              (λ v k. each v k (cases (runs_of G S t (G.kind u) v)))),
        )
      where
        each : (v : ℕ) → v < G.n → (runs_of G S t (G.kind u) v ≡ true) ⊎ (runs_of G S t (G.kind u) v ≡ false)
            → left S (suc t) v * w v + bit (runs_of G S t (G.kind u) v) * (L / G.cores (G.kind u)) ≤ left S t v * w v
        each v k (inr y) = rw (bit-zero (runs_of G S t (G.kind u) v) y) (omega (arith, falls S w t v))
        each v k (inl y) =
            let a : S.runs t v ≡ true = left-of (S.runs t v) _ y in
            rw (bit-one (runs_of G S t (G.kind u) v) y, ← (h v k a (eqb-true (G.kind v) (G.kind u) (right_of (S.runs t v) _ y))))
            (omega (arith, less (left S (suc t) v) (left S t v) (w v) (left-run S t (C.runs_ready t v k a) a)))

  -- while a vertex is ready, work is done
  moves : sum (left S (suc t)) G.n + 1 ≤ sum (left S t) G.n
  moves = go (cases (S.runs t u))
    where
      times-one : (t : ℕ) → sum (λ v. left S t v * 1) G.n ≡ sum (left S t) G.n
      times-one t = sum_ext (λ v. left S t v * 1) (left S t) G.n (λ v l. omega arith)

      go : (S.runs t u ≡ true) ⊎ (S.runs t u ≡ false) → sum (left S (suc t)) G.n + 1 ≤ sum (left S t) G.n
      go (inl x) = sum_drop (left S (suc t)) (left S t) 1 u G.n l (λ v k. left_step S t v) (left-run S t r x)
      go (inr x) =
          let pos : 0 < G.cores (G.kind u) = W.some_core (G.kind u) (W.kind_known u l) in
          let one : G.cores (G.kind u) / G.cores (G.kind u) ≡ 1 = div_self pos in
          omega (
            arith,
            pos,
            times-one t,
            times-one (suc t),
            wait-drop x (G.cores (G.kind u)) (λ v. 1) (rw one (omega arith)) (λ v k a e. rw one),
          )

-- THEOREM. While a vertex is unfinished, work is done in each tick of a work-conserving schedule.
pub progress : {G : Graph} (W : WellFormed G) (A : Acyclic G) {S : Schedule} → WorkConserving G S
    → (t v : ℕ) → v < G.n → (Finished G (left S t) v → ⊥) → sum (left S (suc t)) G.n + 1 ≤ sum (left S t) G.n
progress {G} W A {S} C t v l x =
    let R = ranked W A in
    let d = to_sink W R v l in
    let r = to-ready W (left S t) R v d.0 d.1 x in
    moves W A C t r.top r.has (head-known W r.path)

-- THEOREM. When as many ticks have gone by as there are in all, all is finished in a work-conserving schedule.
module _ {G : Graph} (W : WellFormed G) (A : Acyclic G) {S : Schedule} (C : WorkConserving G S) where
  all-or-less : (t : ℕ) → AllFinished G S t ⊎ (t + sum (left S t) G.n ≤ sum S.time G.n)
  unfolding left
  all-or-less zero = inr (omega arith)
  all-or-less (suc t) = go (all-finished-or W (left S t) (ranked W A)) (all-or-less t)
    where
      go : AllFinished G S t ⊎ ((v : ℕ) × (v < G.n) × (Finished G (left S t) v → ⊥)) → AllFinished G S t ⊎ (t + sum (left S t) G.n ≤ sum S.time G.n)
          → AllFinished G S (suc t) ⊎ (suc t + sum (left S (suc t)) G.n ≤ sum S.time G.n)
      go (inl a) ih = inl (λ v l. fin_step S t (a v l))
      go (inr r) (inl a) = absurd (r.2 (a r.0 r.1))
      go (inr r) (inr h) = inr (omega (arith, h, progress W A C t r.0 r.1 r.2))

  pub all_by : AllFinished G S (sum S.time G.n)
  all_by = go (all-finished-or W (left S (sum S.time G.n)) (ranked W A)) (all-or-less (sum S.time G.n))
    where
      go : AllFinished G S (sum S.time G.n) ⊎ ((v : ℕ) × (v < G.n) × (Finished G (left S (sum S.time G.n)) v → ⊥))
          → AllFinished G S (sum S.time G.n) ⊎ (sum S.time G.n + sum (left S (sum S.time G.n)) G.n ≤ sum S.time G.n)
          → AllFinished G S (sum S.time G.n)
      go (inl a) x = a
      go (inr r) (inl a) = a
      go (inr r) (inr h) = absurd (omega (arith, h, progress W A C (sum S.time G.n) r.0 r.1 r.2))
