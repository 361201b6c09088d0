-- What a pass carries from record to record is enough: the tests of the code are the rows of the table.
use mathlib.Core.Path.{◌≡◌, refl, sym}
use mathlib.Core.Logic.{◌⊎◌, inl, inr}
use mathlib.Core.Bool.{Bool, true, false, ◌&&◌, ◌||◌}
use mathlib.Core.List.{List}
use Prim.Native.Nat.{ℕ, zero, suc, ◌≤◌, ◌<◌, max}
use native.Mathlib.Omega.{arith}
use lib.Dec.{eqb, ltb}
use borrow.Author.Tests.{lt-ltb, le-ltb, eqb-true}
use Rattle.model.specs.Places.{count, any, largest}
use Rattle.model.proofs.Bools.{le-or-lt}
use Rattle.graph.specs.File.{order, is_order, ordinal}

-- some place has more than x just where the largest is more
pub any-above : (f : ℕ → ℕ) (x n : ℕ) → any (λ j. ltb x (f j)) n ≡ ltb x (largest f n)
unfolding any largest
any-above f x zero = sym (le-ltb x 0 (omega arith))
any-above f x (suc n) = rw (any-above f x n) (either (largest f n) (f n) (le-or-lt (largest f n) x) (le-or-lt (f n) x))
  where
    either : (a b : ℕ) → (a ≤ x) ⊎ (x < a) → (b ≤ x) ⊎ (x < b) → ltb x a || ltb x b ≡ ltb x (max a b)
    either a b (inl p) (inl q) = rw (le-ltb x a p, le-ltb x b q, le-ltb x (max a b) (omega arith))
    either a b (inl p) (inr q) = rw (le-ltb x a p, lt-ltb x b q, lt-ltb x (max a b) (omega arith))
    either a b (inr p) q = rw (lt-ltb x a p, lt-ltb x (max a b) (omega arith))

-- a test of a record's place among its kind, for records of the order r alone, is one of how many of that order came before
pub ordinal_passed : (s : List ℕ) (k r : ℕ) (test : ℕ → Bool)
    → eqb (order s k) r && test (count (is_order s r) k) ≡ eqb (order s k) r && test (ordinal s k)
unfolding ordinal
ordinal_passed s k r test = go (eqb (order s k) r) refl
  where
    go : (b : Bool) → eqb (order s k) r ≡ b
        → eqb (order s k) r && test (count (is_order s r) k) ≡ eqb (order s k) r && test (count (is_order s (order s k)) k)
    go true e = let o : order s k ≡ r = eqb-true (order s k) r e in rw o refl
    go false e = rw e
