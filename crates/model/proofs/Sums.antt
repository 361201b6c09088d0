-- Laws of `sum`, `largest` and `along`; a count as a sum, and pairs counted on either side; a sum over kinds as one over vertices.
use mathlib.Core.Path.{◌≡◌, refl, ap, sym, ◌∙◌}
use mathlib.Core.List.{List, [], ◌∷◌}
use mathlib.Core.Bool.{Bool, true, false}
use mathlib.Core.Logic.{◌⊎◌, inl, inr}
use Prim.Native.Nat.{ℕ, zero, suc, ◌+◌, ◌*◌, ◌≤◌, ◌<◌, zero-le, max}
use native.Mathlib.Numerals.{add-one}
use native.Mathlib.Omega.{arith}
use native.Mathlib.Decide.{ℕ_discrete}
use lib.Dec.{eqb}
use borrow.Author.Tests.{eq-eqb, ne_eqb}
use Rattle.model.specs.Places.{pick, bit, count, any, sum, largest, along}
use Rattle.model.proofs.Bools.{le-or-lt}
use Rattle.model.proofs.Places.{count-any}

pub sum_mono : (f g : ℕ → ℕ) (n : ℕ) → ((v : ℕ) → v < n → f v ≤ g v) → sum f n ≤ sum g n
unfolding sum
sum_mono f g zero h = zero-le
sum_mono f g (suc n) h = omega (arith, sum_mono f g n (λ v l. h v (omega arith)), h n (omega arith))

-- one term is lower by d
pub sum_drop : (f g : ℕ → ℕ) (d h n : ℕ) → h < n → ((v : ℕ) → v < n → f v ≤ g v) → f h + d ≤ g h → sum f n + d ≤ sum g n
unfolding sum
sum_drop f g d h zero l le e = omega arith
sum_drop f g d h (suc n) l le e = go (ℕ_discrete h n) (λ k. sum_drop f g d h n k (λ v k. le v (omega arith)) e)
  where
    go : Dec (h ≡ n) → (h < n → sum f n + d ≤ sum g n) → sum f n + f n + d ≤ sum g n + g n
    go (yes q) ih = omega (arith, sum_mono f g n (λ v k. le v (omega arith)), rw q at e)
    go (no q) ih = omega (arith, ih (omega arith), le n (omega arith))

-- each term at which the test holds is lower by c
pub sum-drop-count : (f g : ℕ → ℕ) (p : ℕ → Bool) (c n : ℕ) → ((v : ℕ) → v < n → f v + bit (p v) * c ≤ g v)
    → sum f n + count p n * c ≤ sum g n
unfolding sum count
sum-drop-count f g p c zero h = omega arith
sum-drop-count f g p c (suc n) h = omega (arith, sum-drop-count f g p c n (λ v k. h v (omega arith)), h n (omega arith))

pub sum_term : (f : ℕ → ℕ) (h n : ℕ) → h < n → f h ≤ sum f n
unfolding sum
sum_term f h n l = omega (arith, sum_drop (λ v. 0) f (f h) h n l (λ v k. zero-le) (omega arith))

pub sum_ext : (f g : ℕ → ℕ) (n : ℕ) → ((v : ℕ) → v < n → f v ≡ g v) → sum f n ≡ sum g n
sum_ext f g n h = omega (arith, sum_mono f g n (λ v l. omega (arith, h v l)), sum_mono g f n (λ v l. omega (arith, h v l)))

pub sum-zero : (f : ℕ → ℕ) (n : ℕ) → ((v : ℕ) → v < n → f v ≡ 0) → sum f n ≡ 0
unfolding sum
sum-zero f zero h = refl
sum-zero f (suc n) h = omega (arith, sum-zero f n (λ v l. h v (omega arith)), h n (omega arith))

pub sum-add : (f g : ℕ → ℕ) (n : ℕ) → sum (λ v. f v + g v) n ≡ sum f n + sum g n
unfolding sum
sum-add f g zero = refl
sum-add f g (suc n) = omega (arith, sum-add f g n)

pub sum_scale : (f : ℕ → ℕ) (c n : ℕ) → sum (λ v. f v * c) n ≡ sum f n * c
unfolding sum
sum_scale f c zero = omega arith
sum_scale f c (suc n) = omega (arith, sum_scale f c n)

-- no term above c
pub sum-most : (f : ℕ → ℕ) (c n : ℕ) → ((v : ℕ) → v < n → f v ≤ c) → sum f n ≤ c * n
unfolding sum
sum-most f c zero h = zero-le
sum-most f c (suc n) h = omega (arith, sum-most f c n (λ v l. h v (omega arith)), h n (omega arith))

pub sum_more : (f : ℕ → ℕ) (n : ℕ) → sum f (suc n) ≡ sum f n + f n
unfolding sum
sum_more f n = refl

-- more places hold no less
pub sum-up : (f : ℕ → ℕ) (m n : ℕ) → m ≤ n → sum f m ≤ sum f n
unfolding sum
sum-up f m zero l = let e : m ≡ 0 = omega arith in rw e (omega arith)
sum-up f m (suc n) l = go (ℕ_discrete m (suc n)) (λ k. sum-up f m n k)
  where
    go : Dec (m ≡ suc n) → (m ≤ n → sum f m ≤ sum f n) → sum f m ≤ sum f n + f n
    go (yes e) ih = rw e (omega arith)
    go (no e) ih = omega (arith, ih (omega arith))

-- ---- sums and counts

pub sum_swap : (f : ℕ → ℕ → ℕ) (m n : ℕ) → sum (λ v. sum (λ j. f j v) m) n ≡ sum (λ j. sum (f j) n) m
unfolding sum
sum_swap f m zero = sym (sum-zero (λ j. sum (f j) 0) m (λ j l. refl))
sum_swap f m (suc n) = omega (arith, sum_swap f m n, sum-add (λ j. sum (f j) n) (λ j. f j n) m)

pub count-sum : (p : ℕ → Bool) (n : ℕ) → count p n ≡ sum (λ i. bit (p i)) n
unfolding count sum
count-sum p zero = refl
count-sum p (suc n) = omega (arith, count-sum p n)

-- Where p pairs the places below m with places below n, none with two, as many are paired on one side as on the other: both are the number of pairs.
module _ (p : ℕ → ℕ → Bool) (m n : ℕ) (once : (j u v : ℕ) → j < m → u < n → v < n → p j u ≡ true → p j v ≡ true → u ≡ v)
    (at_once : (j k v : ℕ) → j < m → k < m → v < n → p j v ≡ true → p k v ≡ true → j ≡ k) where
  pub count-pairs : count (λ v. any (λ j. p j v) m) n ≡ count (λ j. any (p j) n) m
  count-pairs =
      count-sum _ n
      ∙ sum_ext _ _ n (λ v l. sym (count-any (λ j. p j v) m (λ j k a b x y. at_once j k v a b l x y)) ∙ count-sum (λ j. p j v) m)
      ∙ sum_swap (λ j v. bit (p j v)) m n
      ∙ sum_ext _ _ m (λ j l. sym (count-sum (p j) n) ∙ count-any (p j) n (λ u v a b x y. once j u v l a b x y))
      ∙ sym (count-sum _ m)

-- ---- the largest

pub largest-most : (f : ℕ → ℕ) (n v : ℕ) → v < n → f v ≤ largest f n
unfolding largest
largest-most f zero v l = absurd (omega arith)
largest-most f (suc n) v l = go (ℕ_discrete v n) (λ m. largest-most f n v m)
  where
    go : Dec (v ≡ n) → (v < n → f v ≤ largest f n) → f v ≤ max (largest f n) (f n)
    go (yes e) ih = rw e (omega arith)
    go (no x) ih = omega (arith, ih (omega arith))

pub largest-more : (f : ℕ → ℕ) (n : ℕ) → largest f (n + 1) ≡ max (largest f n) (f n)
unfolding largest
largest-more f n = rw add-one refl

-- where none is above c, the largest is not
pub largest-within : (f : ℕ → ℕ) (c n : ℕ) → ((v : ℕ) → v < n → f v ≤ c) → largest f n ≤ c
unfolding largest
largest-within f c zero h = zero-le
largest-within f c (suc n) h = omega (arith, largest-within f c n (λ v l. h v (omega arith)), h n (omega arith))

-- it is 0, or one of them
pub largest-is : (f : ℕ → ℕ) (n : ℕ) → (largest f n ≡ 0) ⊎ ((v : ℕ) × (v < n) × (largest f n ≡ f v))
unfolding largest
largest-is f zero = inl refl
largest-is f (suc n) = go (largest-is f n) (le-or-lt (largest f n) (f n))
  where
    go : (largest f n ≡ 0) ⊎ ((v : ℕ) × (v < n) × (largest f n ≡ f v)) → (largest f n ≤ f n) ⊎ (f n < largest f n)
        → (max (largest f n) (f n) ≡ 0) ⊎ ((v : ℕ) × (v < suc n) × (max (largest f n) (f n) ≡ f v))
    go r (inl l) = inr (n, omega arith, omega arith)
    go (inl z) (inr l) = absurd (omega arith)
    go (inr r) (inr l) = inr (r.0, omega (arith, r.1), omega (arith, r.2))

-- ---- along a list

pub along_mono : (f g : ℕ → ℕ) (p : List ℕ) → ((v : ℕ) → f v ≤ g v) → along f p ≤ along g p
unfolding along
along_mono f g [] h = zero-le
along_mono f g (v ∷ p) h = omega (arith, along_mono f g p h, h v)

pub along_scale : (f : ℕ → ℕ) (c : ℕ) (p : List ℕ) → along (λ v. f v * c) p ≡ along f p * c
unfolding along
along_scale f c [] = omega arith
along_scale f c (v ∷ p) = omega (arith, along_scale f c p)

-- ---- by kinds and by vertices

-- the sum of the terms at k alone
pub sum_single : (f : ℕ → ℕ) (k n : ℕ) → k < n → sum (λ s. bit (eqb k s) * f s) n ≡ f k
unfolding sum
sum_single f k zero l = absurd (omega arith)
sum_single f k (suc n) l = go (ℕ_discrete k n) (λ m. sum_single f k n m)
  where
    none : (k s : ℕ) → (k ≡ s → ⊥) → bit (eqb k s) * f s ≡ 0
    none k s x = rw (ne_eqb k s x) (omega arith)

    go : Dec (k ≡ n) → (k < n → sum (λ s. bit (eqb k s) * f s) n ≡ f k) → sum (λ s. bit (eqb k s) * f s) n + bit (eqb k n) * f n ≡ f k
    go (yes e) ih = rw (e, eq-eqb n n refl) (omega (arith, sum-zero (λ s. bit (eqb n s) * f s) n (λ s m. none n s (λ e. omega arith))))
    go (no x) ih = omega (arith, ih (omega arith), none k n x)

-- a sum over the vertices of one kind
abbrev pub of_kind_of : (ℕ → ℕ) → (ℕ → ℕ) → ℕ → ℕ → ℕ
of_kind_of kind f n s = sum (λ v. pick (eqb (kind v) s) (f v) 0) n

pick_bit : (b : Bool) (x : ℕ) → pick b x 0 ≡ bit b * x
pick_bit true x = omega arith
pick_bit false x = omega arith

-- summed by kinds, with a rate for each kind, is summed by vertices
pub by_kind : (kind f g : ℕ → ℕ) (n k : ℕ) → ((v : ℕ) → v < n → kind v < k) → sum (λ s. of_kind_of kind f n s * g s) k ≡ sum (λ v. f v * g (kind v)) n
unfolding sum
by_kind kind f g zero k h = sum-zero _ k (λ v l. omega arith)
by_kind kind f g (suc n) k h = omega (
  arith,
  apart,
  sum-add (λ s. of_kind_of kind f n s * g s) (λ s. bit (eqb (kind n) s) * (f n * g s)) k,
  by_kind kind f g n k (λ v l. h v (omega arith)),
  sum_single (λ s. f n * g s) (kind n) k (h n (omega arith)),
)
  where
    apart : sum (λ s. of_kind_of kind f (suc n) s * g s) k ≡ sum (λ s. of_kind_of kind f n s * g s + bit (eqb (kind n) s) * (f n * g s)) k
    apart = sum_ext _ _ k (λ s l. omega (arith, ap (λ (x : ℕ). x * g s) (pick_bit (eqb (kind n) s) (f n))))
