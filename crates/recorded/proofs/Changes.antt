-- Starts and stops of a schedule: between a start and the next stop a vertex runs in each tick.
use mathlib.Core.Path.{◌≡◌, refl}
use mathlib.Core.Logic.{◌⊎◌, inl, inr, ⊎_elim}
use mathlib.Core.Bool.{true, false, not}
use Prim.Native.Nat.{ℕ, zero, suc, ◌+◌, ◌-◌, ◌*◌, ◌/◌, ◌%◌, ◌≤◌, ◌<◌}
use native.Mathlib.Omega.{arith}
use native.Mathlib.Decide.{ℕ_discrete}
use lib.Dec.{eqb, ltb}
use borrow.Author.Tests.{lt-ltb, ltb-true, eq-eqb, ne_eqb}
use Rattle.model.specs.Places.{pick}
use Rattle.model.specs.Schedule.{Schedule}
use Rattle.model.proofs.Bools.{cases, clash, le-or-lt, both, left-of, right_of, true-not, not-is-true}
use Rattle.recorded.specs.LogOf.{ran_before, starts_at, stops_at_of, change}

module _ (S : Schedule) where
  pub start-runs : (t v : ℕ) → starts_at S t v ≡ true → S.runs t v ≡ true
  unfolding starts_at
  start-runs t v e = left-of (S.runs t v) (not (ran_before S t v)) e

  pub start-fresh : (t v : ℕ) → starts_at S (suc t) v ≡ true → S.runs t v ≡ false
  unfolding starts_at ran_before
  start-fresh t v e = not-is-true (S.runs t v) (right_of (S.runs (suc t) v) (not (S.runs t v)) e)

  pub stop_still : (t v : ℕ) → stops_at_of S t v ≡ true → S.runs t v ≡ false
  unfolding stops_at_of
  stop_still t v e = not-is-true (S.runs t v) (right_of (ran_before S t v) (not (S.runs t v)) e)

  pub stop-ran : (t v : ℕ) → stops_at_of S t v ≡ true → (b : ℕ) × (t ≡ suc b) × (S.runs b v ≡ true)
  unfolding stops_at_of ran_before
  stop-ran zero v e = absurd (clash e refl)
  stop-ran (suc t) v e = (t, refl, left-of (S.runs t v) (not (S.runs (suc t) v)) e)

  -- what runs, and meets no stop, runs on
  pub goes_on : (a d v : ℕ) → S.runs a v ≡ true → ((b : ℕ) → a < b → b ≤ d + a → stops_at_of S b v ≡ false) → S.runs (d + a) v ≡ true
  goes_on a zero v e none = let q : 0 + a ≡ a = omega arith in rw q e
  goes_on a (suc d) v e none =
      let q : suc d + a ≡ suc (d + a) = omega arith in
      rw q (go (cases (S.runs (suc (d + a)) v)) (goes_on a d v e (λ b x y. none b x (omega arith))))
    where
      stops-there : S.runs (d + a) v ≡ true → S.runs (suc (d + a)) v ≡ false → stops_at_of S (suc (d + a)) v ≡ true
      stops-there x y = unfold stops_at_of ran_before in both (S.runs (d + a) v) (not (S.runs (suc (d + a)) v)) x (true-not (S.runs (suc (d + a)) v) y)

      go : (S.runs (suc (d + a)) v ≡ true) ⊎ (S.runs (suc (d + a)) v ≡ false) → S.runs (d + a) v ≡ true → S.runs (suc (d + a)) v ≡ true
      go (inl x) ih = x
      go (inr x) ih = absurd (clash (stops-there ih x) (none (suc (d + a)) (omega arith) (omega arith)))

  pub runs_on : (a t v : ℕ) → a ≤ t → S.runs a v ≡ true → ((b : ℕ) → a < b → b ≤ t → stops_at_of S b v ≡ false) → S.runs t v ≡ true
  runs_on a t v h e none = let q : t ≡ (t - a) + a = omega arith in rw q (goes_on a (t - a) v e (λ b x y. none b x (omega arith)))

-- a start and a stop by their keys, and what a key tells
module _ (n : ℕ) (S : Schedule) where
  pub start_changes : (t v : ℕ) → v < n → n ≤ 256 → starts_at S t v ≡ true → change n S (512 * t + 256 + v) ≡ true
  unfolding change
  start_changes t v b m e =
      let a : (512 * t + 256 + v) % 256 ≡ v = omega arith in
      let y : (512 * t + 256 + v) / 256 ≡ 2 * t + 1 = omega arith in
      let c : (512 * t + 256 + v) / 256 % 2 ≡ 1 = rw y (omega arith) in
      let d : (512 * t + 256 + v) / 512 ≡ t = omega arith in
      both (ltb ((512 * t + 256 + v) % 256) n) _ (rw a (lt-ltb v n b)) (rw (c, d, a) e)

  pub stop_changes : (t v : ℕ) → v < n → n ≤ 256 → stops_at_of S t v ≡ true → change n S (512 * t + v) ≡ true
  unfolding change
  stop_changes t v b m e =
      let a : (512 * t + v) % 256 ≡ v = omega arith in
      let y : (512 * t + v) / 256 ≡ 2 * t = omega arith in
      let c : (512 * t + v) / 256 % 2 ≡ 0 = rw y (omega arith) in
      let d : (512 * t + v) / 512 ≡ t = omega arith in
      both (ltb ((512 * t + v) % 256) n) _ (rw a (lt-ltb v n b)) (rw (c, d, a) e)

  pub change-of : (x : ℕ) → change n S x ≡ true → (x % 256 < n)
      × (((x ≡ 512 * (x / 512) + 256 + x % 256) × (starts_at S (x / 512) (x % 256) ≡ true))
      ⊎ ((x ≡ 512 * (x / 512) + x % 256) × (stops_at_of S (x / 512) (x % 256) ≡ true)))
  unfolding change
  change-of x e = (ltb-true (x % 256) n (left-of (ltb (x % 256) n) _ e), go (ℕ_discrete (x / 256 % 2) 1) (right_of (ltb (x % 256) n) _ e))
    where
      halves : x / 256 ≡ 2 * (x / 512) + x / 256 % 2
      halves = omega arith

      go : Dec (x / 256 % 2 ≡ 1) → pick (eqb (x / 256 % 2) 1) (starts_at S (x / 512) (x % 256)) (stops_at_of S (x / 512) (x % 256)) ≡ true
          → ((x ≡ 512 * (x / 512) + 256 + x % 256) × (starts_at S (x / 512) (x % 256) ≡ true))
          ⊎ ((x ≡ 512 * (x / 512) + x % 256) × (stops_at_of S (x / 512) (x % 256) ≡ true))
      go (yes q) r = inl (omega (arith, halves), rw (eq-eqb (x / 256 % 2) 1 q) at r)
      go (no q) r = inr (omega (arith, halves, odd), rw (ne_eqb (x / 256 % 2) 1 q) at r)
        where
          odd : x / 256 % 2 ≡ 0
          odd = ⊎_elim (λ (h : x / 256 % 2 ≤ 0). omega arith) (λ (h : 0 < x / 256 % 2). absurd (q (omega arith))) (le-or-lt (x / 256 % 2) 0)

-- the start from which a vertex runs in the tick t
pub record Began (S : Schedule) (t v : ℕ) : Type 0 where
  pub from : ℕ
  pub by : from ≤ t
  pub start : starts_at S from v ≡ true
  pub on : (b : ℕ) → from ≤ b → b ≤ t → S.runs b v ≡ true

pub began : (S : Schedule) (t v : ℕ) → S.runs t v ≡ true → Began S t v
unfolding starts_at ran_before
began S zero v e = record {
  from = 0;
  by = omega arith;
  start = both (S.runs 0 v) (not false) e refl;
  on = λ b x y. let q : b ≡ 0 = omega arith in rw q e;
}
began S (suc t) v e = go (cases (S.runs t v)) (began S t v)
  where
    go : (S.runs t v ≡ true) ⊎ (S.runs t v ≡ false) → (S.runs t v ≡ true → Began S t v) → Began S (suc t) v
    go (inl x) ih = later (ih x)
      where
        last : (r : Began S t v) (b : ℕ) → r.from ≤ b → b ≤ suc t → Dec (b ≡ suc t) → S.runs b v ≡ true
        last r b y z (yes q) = rw q e
        last r b y z (no q) = r.on b y (omega arith)

        later : Began S t v → Began S (suc t) v
        later r = record { from = r.from; by = omega (arith, r.by); start = r.start; on = λ b y z. last r b y z (ℕ_discrete b (suc t)) }
    go (inr x) ih = record {
      from = suc t;
      by = omega arith;
      start = both (S.runs (suc t) v) (not (S.runs t v)) e (true-not (S.runs t v) x);
      on = λ b y z. let q : b ≡ suc t = omega arith in rw q e;
    }
