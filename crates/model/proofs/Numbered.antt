-- Numberings: how they are put together, and that what is numbered twice has one number.
use mathlib.Core.Path.{◌≡◌, refl, ap, sym, ◌∙◌}
use mathlib.Core.Logic.{◌⊎◌, inl, inr}
use mathlib.Core.List.{List, ◌∷◌, tail-eq_of_cons-eq}
use Prim.Native.Nat.{ℕ, zero, suc, ◌+◌, ◌-◌, ◌≤◌, ◌<◌}
use native.Mathlib.Omega.{arith}
use native.Mathlib.Decide.{ℕ_discrete}
use lib.Dec.{eqb}
use borrow.Author.Tests.{eq-eqb, eqb-true, lt-ltb, le-ltb}
use Rattle.model.specs.Places.{any, sum}
use Rattle.model.specs.PathCount.{Numbered}
use Rattle.model.specs.Visit.{amid}
use Rattle.model.proofs.Bools.{le-or-lt}
use Rattle.model.proofs.Places.{count-le, count-all, any_intro}
use Rattle.model.proofs.Sums.{sum-up, sum_ext, count-pairs}

-- ---- one number

-- no more pigeons than holes: each pigeon is paired with its hole
pigeons : (m n : ℕ) (f : ℕ → ℕ) → ((i : ℕ) → i < m → f i < n) → ((i j : ℕ) → i < m → j < m → f i ≡ f j → i ≡ j) → m ≤ n
pigeons m n f low once =
    omega (
      arith,
      count-pairs (λ i v. eqb (f i) v) m n (λ i u v l h k a b. sym (eqb-true (f i) u a) ∙ eqb-true (f i) v b)
          (λ i j v l k h a b. once i j l k (eqb-true (f i) v a ∙ sym (eqb-true (f j) v b))),
      count-all (λ i. any (λ v. eqb (f i) v) n) m (λ i l. any_intro (λ v. eqb (f i) v) n (f i) (low i l) (eq-eqb (f i) (f i) refl)),
      count-le (λ v. any (λ i. eqb (f i) v) m) n,
    )

fewer : {P : List ℕ → Type 0} {m n : ℕ} {a b : ℕ → List ℕ} → Numbered P m a → Numbered P n b → m ≤ n
fewer {P} {m} {n} {a} {b} x y = pigeons m n (λ i. place i (le-or-lt m i)) (λ i l. low i l (le-or-lt m i)) (λ i j l k e. same i j l k (le-or-lt m i) (le-or-lt m j) e)
  where
    -- the number that the i-th has in the other
    place : (i : ℕ) → (m ≤ i) ⊎ (i < m) → ℕ
    place i (inl l) = 0
    place i (inr l) = (y.every (a i) (x.has i l)).0

    low : (i : ℕ) → i < m → (d : (m ≤ i) ⊎ (i < m)) → place i d < n
    low i l (inl k) = absurd (omega arith)
    low i l (inr k) = (y.every (a i) (x.has i k)).1

    same : (i j : ℕ) → i < m → j < m → (d : (m ≤ i) ⊎ (i < m)) (d' : (m ≤ j) ⊎ (j < m)) → place i d ≡ place j d' → i ≡ j
    same i j l k (inl c) d' e = absurd (omega arith)
    same i j l k (inr c) (inl c') e = absurd (omega arith)
    same i j l k (inr c) (inr c') e =
        x.once i j l k (sym (y.every (a i) (x.has i c)).2 ∙ (ap b e ∙ (y.every (a j) (x.has j c')).2))

-- THEOREM. However one numbers the lists that have P, there are as many.
pub same_number : {P : List ℕ → Type 0} {m n : ℕ} {a b : ℕ → List ℕ} → Numbered P m a → Numbered P n b → m ≡ n
same_number x y = omega (arith, fewer x y, fewer y x)

-- ---- putting numberings together

pub number-none : (P : List ℕ → Type 0) (a : ℕ → List ℕ) → ((p : List ℕ) → P p → ⊥) → Numbered P 0 a
number-none P a x = record { has = λ i l. absurd (omega arith); every = λ p h. absurd (x p h); once = λ i j l k e. absurd (omega arith) }

pub number-one : (P : List ℕ → Type 0) (q : List ℕ) → P q → ((p : List ℕ) → P p → q ≡ p) → Numbered P 1 (λ i. q)
number-one P q h only = record { has = λ i l. h; every = λ p x. (0, omega arith, only p x); once = λ i j l k e. omega arith }

-- the same lists, told in another way
pub number_same : {P : List ℕ → Type 0} (Q : List ℕ → Type 0) {m : ℕ} {a : ℕ → List ℕ} → ((p : List ℕ) → P p → Q p) → ((p : List ℕ) → Q p → P p)
    → Numbered P m a → Numbered Q m a
number_same Q f g x = record { has = λ i l. f _ (x.has i l); every = λ p h. x.every p (g p h); once = x.once }

pub number_at : {P : List ℕ → Type 0} {m : ℕ} {a : ℕ → List ℕ} (b : ℕ → List ℕ) → ((i : ℕ) → i < m → a i ≡ b i) → Numbered P m a → Numbered P m b
number_at {P} {m} {a} b e x = record {
  has = λ i l. rw (e i l) at (x.has i l);
  every = λ p h. let r = x.every p h in (r.0, r.1, sym (e r.0 r.1) ∙ r.2);
  once = λ i j l k q. x.once i j l k (e i l ∙ (q ∙ sym (e j k)));
}

-- a vertex in front of each
pub record Fronted (v : ℕ) (P : List ℕ → Type 0) (p : List ℕ) : Type 0 where
  pub rest : List ℕ
  pub is : p ≡ v ∷ rest
  pub has_rest : P rest

pub number-front : (v : ℕ) {P : List ℕ → Type 0} {m : ℕ} {a : ℕ → List ℕ} → Numbered P m a → Numbered (Fronted v P) m (λ i. v ∷ a i)
number-front v {a = a} x = record {
  has = λ i l. record { rest = a i; is = refl; has_rest = x.has i l };
  every = λ p h. ((x.every h.rest h.has_rest).0, (x.every h.rest h.has_rest).1, ap (λ (q : List ℕ). v ∷ q) (x.every h.rest h.has_rest).2 ∙ sym h.is);
  once = λ i j l k e. x.once i j l k (tail-eq_of_cons-eq e);
}

-- one family after the other: the i-th of all is in the family at whose numbers i has arrived
module _ (m : ℕ → ℕ) (a : ℕ → ℕ → List ℕ) where
  amid-low : (n i : ℕ) → i < sum m n → amid m a (suc n) i ≡ amid m a n i
  unfolding amid
  amid-low n i l = rw (lt-ltb i (sum m n) l) refl

  amid-high : (n i : ℕ) → sum m n ≤ i → amid m a (suc n) i ≡ a n (i - sum m n)
  unfolding amid
  amid-high n i l = rw (le-ltb i (sum m n) l) refl

  -- how a walk finds its family: u is the one whose numbers i is among
  pub amid-at : (n u i : ℕ) → u < n → sum m u ≤ i → i < sum m (suc u) → amid m a n i ≡ a u (i - sum m u)
  amid-at zero u i l h k = absurd (omega arith)
  amid-at (suc n) u i l h k = go (ℕ_discrete u n) (λ b. amid-at n u i b h k)
    where
      go : Dec (u ≡ n) → (u < n → amid m a n i ≡ a u (i - sum m u)) → amid m a (suc n) i ≡ a u (i - sum m u)
      go (yes e) ih = rw e (amid-high n i (rw e at h))
      go (no e) ih = amid-low n i (omega (arith, sum-up m (suc u) n (omega arith))) ∙ ih (omega arith)

-- the same numbers, and the same lists below them
pub amid-same : (m m' : ℕ → ℕ) (a a' : ℕ → ℕ → List ℕ) (n i : ℕ) → ((u : ℕ) → u < n → m u ≡ m' u) → ((u j : ℕ) → u < n → j < m u → a u j ≡ a' u j)
    → i < sum m n → amid m a n i ≡ amid m' a' n i
unfolding sum
amid-same m m' a a' zero i e f l = absurd (omega arith)
amid-same m m' a a' (suc n) i e f l = go (le-or-lt (sum m n) i) (amid-same m m' a a' n i (λ u k. e u (omega arith)) (λ u j k. f u j (omega arith)))
  where
    q : sum m n ≡ sum m' n
    q = sum_ext m m' n (λ u k. e u (omega arith))

    go : (sum m n ≤ i) ⊎ (i < sum m n) → (i < sum m n → amid m a n i ≡ amid m' a' n i) → amid m a (suc n) i ≡ amid m' a' (suc n) i
    go (inl h) ih =
        amid-high m a n i h ∙ (f n (i - sum m n) (omega arith) (omega arith) ∙ (ap (λ (x : ℕ). a' n (i - x)) q ∙ sym (amid-high m' a' n i (rw q at h))))
    go (inr h) ih = amid-low m a n i h ∙ (ih h ∙ sym (amid-low m' a' n i (rw q at h)))

pub record Some (P : ℕ → List ℕ → Type 0) (n : ℕ) (p : List ℕ) : Type 0 where
  pub which : ℕ
  pub below : which < n
  pub has_it : P which p

module _ (P : ℕ → List ℕ → Type 0) (m : ℕ → ℕ) (a : ℕ → ℕ → List ℕ) (apart : (u w : ℕ) (p : List ℕ) → P u p → P w p → u ≡ w) where
  -- one family more
  number_more : (n : ℕ) → Numbered (Some P n) (sum m n) (amid m a n) → Numbered (P n) (m n) (a n)
      → Numbered (Some P (suc n)) (sum m (suc n)) (amid m a (suc n))
  unfolding sum
  number_more n low high = record {
    has = λ i l. has i l (le-or-lt (sum m n) i);
    every = every;
    once = λ i j l k e. once i j l k (le-or-lt (sum m n) i) (le-or-lt (sum m n) j) e;
  }
    where
      has : (i : ℕ) → i < sum m n + m n → (sum m n ≤ i) ⊎ (i < sum m n) → Some P (suc n) (amid m a (suc n) i)
      has i l (inl k) = rw (amid-high m a n i k) (record { which = n; below = omega arith; has_it = high.has (i - sum m n) (omega arith) })
      has i l (inr k) = let r = low.has i k in rw (amid-low m a n i k) (record { which = r.which; below = omega (arith, r.below); has_it = r.has_it })

      every : (p : List ℕ) → Some P (suc n) p → (i : ℕ) × (i < sum m n + m n) × (amid m a (suc n) i ≡ p)
      every p h = go (ℕ_discrete h.which n)
        where
          go : Dec (h.which ≡ n) → (i : ℕ) × (i < sum m n + m n) × (amid m a (suc n) i ≡ p)
          go (yes e) =
              let r = high.every p (rw e at h.has_it) in
              let d : sum m n + r.0 - sum m n ≡ r.0 = omega arith in
              (sum m n + r.0, omega (arith, r.1), amid-high m a n (sum m n + r.0) (omega arith) ∙ (ap (a n) d ∙ r.2))
          go (no e) =
              let r = low.every p (record { which = h.which; below = omega (arith, h.below); has_it = h.has_it }) in
              (r.0, omega (arith, r.1), amid-low m a n r.0 r.1 ∙ r.2)

      not-both : (i j : ℕ) → i < sum m n → sum m n ≤ j → j < sum m n + m n → amid m a n i ≡ a n (j - sum m n) → ⊥
      not-both i j l k k' e =
          let r = low.has i l in
          omega (arith, r.below, apart r.which n (amid m a n i) r.has_it (rw e (high.has (j - sum m n) (omega arith))))

      once : (i j : ℕ) → i < sum m n + m n → j < sum m n + m n → (sum m n ≤ i) ⊎ (i < sum m n) → (sum m n ≤ j) ⊎ (j < sum m n)
          → amid m a (suc n) i ≡ amid m a (suc n) j → i ≡ j
      once i j l k (inl c) (inl d) e = omega (arith, high.once (i - sum m n) (j - sum m n) (omega arith) (omega arith) (sym (amid-high m a n i c) ∙ (e ∙ amid-high m a n j d)))
      once i j l k (inl c) (inr d) e = absurd (not-both j i d c l (sym (amid-low m a n j d) ∙ (sym e ∙ amid-high m a n i c)))
      once i j l k (inr c) (inl d) e = absurd (not-both i j c d k (sym (amid-low m a n i c) ∙ (e ∙ amid-high m a n j d)))
      once i j l k (inr c) (inr d) e = low.once i j c d (sym (amid-low m a n i c) ∙ (e ∙ amid-low m a n j d))

  pub number-sum : (n : ℕ) → ((u : ℕ) → u < n → Numbered (P u) (m u) (a u)) → Numbered (Some P n) (sum m n) (amid m a n)
  unfolding sum
  number-sum zero x = number-none (Some P zero) (amid m a zero) (λ p h. omega (arith, h.below))
  number-sum (suc n) x = number_more n (number-sum n (λ u l. x u (omega arith))) (x n (omega arith))
