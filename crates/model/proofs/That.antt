-- Laws of `that`, the places at which a test holds: the k-th of them is the one with k before it, and whatever goes through them in ascending
-- order is this list. And how many there are at most, where no two leave the same rest.
use mathlib.Core.Path.{◌≡◌, refl, ap, ◌∙◌}
use mathlib.Core.Logic.{◌⊎◌, inl, inr, ⊎_elim}
use mathlib.Core.Bool.{Bool, true, false, ◌&&◌}
use mathlib.Core.List.{[], ◌∷◌, ◌++◌}
use Prim.Native.Nat.{ℕ, zero, suc, ◌+◌, ◌%◌, ◌≤◌, ◌<◌, zero-le}
use native.Mathlib.Nat.{mod-lt}
use native.Mathlib.Omega.{arith}
use native.Mathlib.Decide.{ℕ_discrete}
use lib.ListN.{length, get_or, length-append, get_or-append}
use lib.Seq.{get_or_at}
use lib.Dec.{eqb}
use borrow.Author.Tests.{eq-eqb, eqb-true}
use Rattle.model.specs.Places.{pick, bit, any, count, that}
use Rattle.model.proofs.Bools.{cases, le-or-lt, both, left-of, right_of, not-true, bit-one, bit-zero}
use Rattle.model.proofs.Turns.{count_past}
use Rattle.model.proofs.Places.{count-up, count-there, count_none, count_less, count-sub, count-le, count-nth, any_intro, any_elim, any_none}

pub that-length : (p : ℕ → Bool) (n : ℕ) → length (that p n) ≡ count p n
unfolding that count
that-length p zero = refl
that-length p (suc n) = length-append (that p n) (pick (p n) (n ∷ []) []) ∙ rw (that-length p n) (ap (λ (x : ℕ). count p n + x) (one (p n)))
  where
    one : (b : Bool) → length (pick b (n ∷ []) []) ≡ bit b
    one true = refl
    one false = refl

-- the place x is found where as many places hold as there are before it
pub that-rank : (p : ℕ → Bool) (n x : ℕ) → x < n → p x ≡ true → get_or (that p n) (count p x) 0 ≡ x
unfolding that
that-rank p zero x l e = absurd (omega arith)
that-rank p (suc n) x l e = go (ℕ_discrete x n) (λ h. that-rank p n x h e)
  where
    go : Dec (x ≡ n) → (x < n → get_or (that p n) (count p x) 0 ≡ x) → get_or (that p n ++ pick (p n) (n ∷ []) []) (count p x) 0 ≡ x
    go (yes q) ih =
        let t : p n ≡ true = rw (← q) e in
        rw (t, q) (get_or_at (that p n) n [] 0 (count p n) (that-length p n))
    go (no q) ih =
        let b : count p x < length (that p n) = omega (arith, that-length p n, count-there p x e, count-up p (suc x) n (omega arith)) in
        get_or-append (that p n) (pick (p n) (n ∷ []) []) 0 (count p x) b ∙ ih (omega arith)

-- x is the k-th place below n at which p holds
pub record Kth (p : ℕ → Bool) (n k x : ℕ) : Type 0 where
  pub below : x < n
  pub is : p x ≡ true
  pub rank : count p x ≡ k

pub that_kth : (p : ℕ → Bool) (n k : ℕ) → k < count p n → Kth p n k (get_or (that p n) k 0)
that_kth p n k l =
    let r = count-nth p n k l in
    let e : get_or (that p n) k 0 ≡ r.0 = rw r.3 at (that-rank p n r.0 r.1 r.2) in
    rw e (record { below = r.1; is = r.2; rank = r.3 })

-- ranks and places rise together
pub rank_rises : (p : ℕ → Bool) {n k j x y : ℕ} → Kth p n k x → Kth p n j y → x < y → k < j
rank_rises p {x = x} {y = y} a b l = omega (arith, a.rank, b.rank, count-there p x a.is, count-up p (suc x) y l)

pub place-rises : (p : ℕ → Bool) {n k j x y : ℕ} → Kth p n k x → Kth p n j y → k < j → x < y
place-rises p {x = x} {y = y} a b l = ⊎_elim (λ (h : y ≤ x). absurd (omega (arith, a.rank, b.rank, count-up p y x h))) (λ h. h) (le-or-lt y x)

-- whatever rises from place to place, and goes through all places below n at which p holds and no others, goes through them as `that` does
module _ (p : ℕ → Bool) (n m : ℕ) (f : ℕ → ℕ) (below : (i : ℕ) → i < m → f i < n) (is : (i : ℕ) → i < m → p (f i) ≡ true)
    (all : (x : ℕ) → x < n → p x ≡ true → (i : ℕ) × (i < m) × (f i ≡ x)) (rises : (i j : ℕ) → i < j → j < m → f i < f j) where
  -- the order of two values tells that of their places
  tells : (i j : ℕ) → i < m → j < m → f i < f j → i < j
  tells i j a b h = ⊎_elim (λ (x : j ≤ i). absurd (other x (ℕ_discrete i j))) (λ x. x) (le-or-lt j i)
    where
      other : j ≤ i → Dec (i ≡ j) → ⊥
      other x (yes e) = omega (arith, ap f e)
      other x (no e) = omega (arith, rises j i (omega arith) a)

  off : (x : ℕ) → x < n → ((i : ℕ) → i < m → f i ≡ x → ⊥) → p x ≡ false
  off x l h = not-true (p x) (λ e. let r = all x l e in h r.0 r.1 r.2)

  pub listed-rank : (i : ℕ) → i < m → count p (f i) ≡ i
  listed-rank zero b = count_none p (f 0) (λ x l. off x (omega (arith, below 0 b)) (λ i c e. omega (arith, tells i 0 c b (omega arith))))
  listed-rank (suc i) b =
      omega (
        arith,
        count_past p (suc (f i)) (f (suc i)) (rises i (suc i) (omega arith) b)
            (λ x l h. off x (omega (arith, below (suc i) b))
            (λ k c e. omega (arith, tells i k (omega arith) c (omega arith), tells k (suc i) c b (omega arith)))),
        count-there p (f i) (is i (omega arith)),
        listed-rank i (omega arith),
      )

  pub listed-all : count p n ≡ m
  listed-all = go m refl
    where
      go : (k : ℕ) → m ≡ k → count p n ≡ m
      go zero e = omega (arith, count_none p n (λ x l. off x l (λ i c q. omega arith)))
      go (suc k) e =
          omega (
            arith,
            count_past p (suc (f k)) n (below k (omega arith)) (λ x l h. off x h (λ i c q. omega (arith, tells k i (omega arith) c (omega arith)))),
            count-there p (f k) (is k (omega arith)),
            listed-rank k (omega arith),
          )

  pub listed_at : (i : ℕ) → i < m → get_or (that p n) i 0 ≡ f i
  listed_at i b = rw (listed-rank i b) at (that-rank p n (f i) (below i b) (is i b))

-- where no two places at which p holds leave the same rest, there are no more of them than rests
module _ (p : ℕ → Bool) (c : ℕ) (pos : 0 < c) (apart : (x y : ℕ) → x < y → p x ≡ true → p y ≡ true → x % c ≡ y % c → ⊥) where
  -- some place below n at which p holds leaves the rest r
  leaves : ℕ → ℕ → Bool
  leaves n r = any (λ x. p x && eqb (x % c) r) n

  leaves-more : (n r : ℕ) → leaves n r ≡ true → leaves (suc n) r ≡ true
  unfolding leaves
  leaves-more n r e =
      let q = any_elim (λ x. p x && eqb (x % c) r) n e in
      any_intro (λ x. p x && eqb (x % c) r) (suc n) q.0 (omega (arith, q.1)) q.2

  rests : (n : ℕ) → count p n ≤ count (leaves n) c
  unfolding leaves count
  rests zero = zero-le
  rests (suc n) = go (cases (p n)) (rests n)
    where
      go : (p n ≡ true) ⊎ (p n ≡ false) → count p n ≤ count (leaves n) c → count p n + bit (p n) ≤ count (leaves (suc n)) c
      go (inr e) ih = omega (arith, bit-zero (p n) e, count-sub (leaves n) (leaves (suc n)) c (λ r b x. leaves-more n r x))
      go (inl e) ih =
          omega (
            arith,
            bit-one (p n) e,
            count_less (leaves n) (leaves (suc n)) (n % c) c (mod-lt n pos) (λ r b x. leaves-more n r x)
                (any_intro (λ x. p x && eqb (x % c) (n % c)) (suc n) n (omega arith) (both (p n) (eqb (n % c) (n % c)) e (eq-eqb (n % c) (n % c) refl)))
                (any_none (λ x. p x && eqb (x % c) (n % c)) n
                (λ x b. not-true (p x && eqb (x % c) (n % c))
                (λ y. apart x n b (left-of (p x) _ y) e (eqb-true (x % c) (n % c) (right_of (p x) _ y))))),
          )

  pub few_rests : (n : ℕ) → count p n ≤ c
  few_rests n = omega (arith, rests n, count-le (leaves n) c)

  -- and no more than rests of one sort, where all rests are of that sort
  pub few_rests_of : (q : ℕ → Bool) → ((x : ℕ) → p x ≡ true → q (x % c) ≡ true) → (n : ℕ) → count p n ≤ count q c
  few_rests_of q h n = omega (arith, rests n, count-sub (leaves n) q c (λ r b x. sort r (any_elim (λ x. p x && eqb (x % c) r) n (unfold leaves in x))))
    where
      sort : (r : ℕ) → (x : ℕ) × (x < n) × (p x && eqb (x % c) r ≡ true) → q r ≡ true
      sort r (x, b, e) = rw (eqb-true (x % c) r (right_of (p x) _ e)) at (h x (left-of (p x) _ e))
