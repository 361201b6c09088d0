-- A sum over the places at which a test holds is one over those places, listed in ascending order.
use mathlib.Core.Path.{◌≡◌, refl, ap}
use mathlib.Core.Logic.{◌⊎◌, inl, inr}
use mathlib.Core.Bool.{Bool, true, false}
use Prim.Native.Nat.{ℕ, zero, suc, ◌≤◌, ◌<◌}
use native.Mathlib.Omega.{arith}
use native.Mathlib.Decide.{ℕ_discrete}
use Rattle.model.specs.Places.{pick, sum}
use Rattle.model.proofs.Bools.{le-or-lt, not-true}
use Rattle.model.proofs.Sums.{sum-zero}
use Rattle.model.proofs.Turns.{sum_past}

module _ (f : ℕ → ℕ) (b : ℕ → Bool) (r : ℕ → ℕ) (m : ℕ) (up : (k : ℕ) → suc k < m → r k < r (suc k)) (there : (k : ℕ) → k < m → b (r k) ≡ true)
    (only : (w : ℕ) → b w ≡ true → (k : ℕ) × (k < m) × (r k ≡ w)) where
  rises : (j k : ℕ) → j < k → k < m → r j < r k
  rises j zero l h = absurd (omega arith)
  rises j (suc k) l h = go (ℕ_discrete j k) (λ x. rises j k x (omega arith))
    where
      go : Dec (j ≡ k) → (j < k → r j < r k) → r j < r (suc k)
      go (yes e) ih = rw e (up k h)
      go (no e) ih = omega (arith, ih (omega arith), up k h)

  not_before : (k j : ℕ) → k ≤ j → j < m → r k ≤ r j
  not_before k j l h = go (ℕ_discrete k j)
    where
      go : Dec (k ≡ j) → r k ≤ r j
      go (yes e) = rw e (omega arith)
      go (no e) = omega (arith, rises k j (omega arith) h)

  abbrev held : ℕ → ℕ
  held w = pick (b w) (f w) 0

  -- between the k-th place and the next nothing is held
  gap : (w : ℕ) → ((k : ℕ) → k < m → r k ≡ w → ⊥) → held w ≡ 0
  gap w none = let e : b w ≡ false = not-true (b w) (λ t. let x = only w t in none x.0 x.1 x.2) in rw e refl

  -- t lies above the first k places, and not above the others
  pub sum-places : (k t : ℕ) → k ≤ m → ((j : ℕ) → j < k → r j < t) → ((j : ℕ) → k ≤ j → j < m → t ≤ r j) → sum held t ≡ sum (λ j. f (r j)) k
  unfolding sum
  sum-places zero t l low high = sum-zero held t (λ w x. gap w (λ j y e. omega (arith, high j (omega arith) y)))
  sum-places (suc k) t l low high =
      omega (
        arith,
        sum_past held (suc (r k)) t (low k (omega arith)) (λ w x y. gap w (λ j z e. between w x y j z e (le-or-lt j k))),
        ap (λ (c : Bool). pick c (f (r k)) 0) (there k (omega arith)),
        sum-places k (r k) (omega arith) (λ j x. rises j k x (omega arith)) (not_before k),
      )
    where
      between : (w : ℕ) → suc (r k) ≤ w → w < t → (j : ℕ) → j < m → r j ≡ w → (j ≤ k) ⊎ (k < j) → ⊥
      between w x y j z e (inr h) = omega (arith, high j h z)
      between w x y j z e (inl h) = omega (arith, not_before j k h (omega arith))

  pub sum-part : (k : ℕ) → k < m → sum held (r k) ≡ sum (λ j. f (r j)) k
  sum-part k h = sum-places k (r k) (omega arith) (λ j x. rises j k x h) (not_before k)
