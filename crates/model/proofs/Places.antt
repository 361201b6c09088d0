-- Laws of `first`, `count`, `any` and `every`, over any tests.
use mathlib.Core.Path.{◌≡◌, refl, ap, ap₂}
use mathlib.Core.Logic.{◌⊎◌, inl, inr, ⊎_elim}
use mathlib.Core.Bool.{Bool, true, false, not, ◌&&◌, ◌||◌}
use Prim.Native.Nat.{ℕ, zero, suc, ◌+◌, ◌≤◌, ◌<◌, zero-le, suc-le-suc, min}
use native.Mathlib.Nat.{le_of_suc-le-suc, not-suc-le-zero}
use native.Mathlib.Numerals.{add-one}
use native.Mathlib.Omega.{arith}
use native.Mathlib.Decide.{ℕ_discrete}
use lib.Dec.{eqb, ltb}
use borrow.Author.Tests.{lt-ltb, le-ltb, ne_eqb, eq-eqb}
use Rattle.model.specs.Places.{pick, bit, first, count, any, every}
use Rattle.model.proofs.Bools.{clash, cases, le-or-lt, not-true, both, left-of, right_of, or_left, or_right, or_cases, bit-one, bit-zero, bit_le, bit_mono}

-- all places below n have P, or one has Q
pub all-or-some : (P Q : ℕ → Type 0) (n : ℕ) → ((v : ℕ) → v < n → P v ⊎ Q v)
    → ((v : ℕ) → v < n → P v) ⊎ ((v : ℕ) × (v < n) × Q v)
all-or-some P Q zero h = inl (λ v l. absurd (omega arith))
all-or-some P Q (suc n) h = go (h n (omega arith)) (all-or-some P Q n (λ v l. h v (omega arith)))
  where
    go : P n ⊎ Q n → ((v : ℕ) → v < n → P v) ⊎ ((v : ℕ) × (v < n) × Q v)
        → ((v : ℕ) → v < suc n → P v) ⊎ ((v : ℕ) × (v < suc n) × Q v)
    go (inr q) r = inr (n, omega arith, q)
    go (inl p) (inr r) = inr (r.0, omega arith, r.2)
    go (inl p) (inl f) = inl (λ v l. last v l (ℕ_discrete v n))
      where
        last : (v : ℕ) → v < suc n → Dec (v ≡ n) → P v
        last v l (yes e) = rw e p
        last v l (no e) = f v (omega arith)

-- the first instant that has P, where some instant has it
pub first-instant : (P : ℕ → Type 0) → ((t : ℕ) → Dec (P t)) → (T : ℕ) → P T → (F : ℕ) × P F × ((t : ℕ) → t < F → P t → ⊥)
first-instant P d T h = from_start T 0 (omega arith) (λ t l x. omega arith)
  where
    from_start : (k t : ℕ) → k + t ≡ T → ((m : ℕ) → m < t → P m → ⊥) → (F : ℕ) × P F × ((t : ℕ) → t < F → P t → ⊥)
    from_start zero t e none = let q : t ≡ T = omega arith in (t, rw q h, none)
    from_start (suc k) t e none = go (d t) (λ n. from_start k (suc t) (omega arith) n)
      where
        go : Dec (P t) → (((m : ℕ) → m < suc t → P m → ⊥) → (F : ℕ) × P F × ((t : ℕ) → t < F → P t → ⊥))
            → (F : ℕ) × P F × ((t : ℕ) → t < F → P t → ⊥)
        go (yes p) ih = (t, p, none)
        go (no p) ih = ih (λ m l x. last m l x (ℕ_discrete m t))
          where
            last : (m : ℕ) → m < suc t → P m → Dec (m ≡ t) → ⊥
            last m l x (yes q) = p (rw q at x)
            last m l x (no q) = none m (omega arith) x

-- ---- `first`

-- at the place where a scan stops
pub first-at : (p : ℕ → Bool) (n i : ℕ) → i < n → ((k : ℕ) → k < i → p k ≡ false) → p i ≡ true → first p n ≡ i
unfolding first
first-at p zero i l below here = absurd (not-suc-le-zero l)
first-at p (suc n) zero l below here = rw here
first-at p (suc n) (suc i) l below here =
    rw (below zero (suc-le-suc zero-le)) (ap suc (first-at (λ k. p (suc k)) n i (le_of_suc-le-suc l) (λ k h. below (suc k) (suc-le-suc h)) here))

-- where a scan finds none
pub first-none : (p : ℕ → Bool) (n : ℕ) → ((k : ℕ) → k < n → p k ≡ false) → first p n ≡ n
unfolding first
first-none p zero below = refl
first-none p (suc n) below =
    rw (below zero (suc-le-suc zero-le)) (ap suc (first-none (λ k. p (suc k)) n (λ k h. below (suc k) (suc-le-suc h))))

-- nothing passes below it, and it passes there unless it is the end
pub first-le : (p : ℕ → Bool) (n : ℕ) → first p n ≤ n
unfolding first
first-le p zero = omega arith
first-le p (suc n) = go (p zero) (first-le (λ k. p (suc k)) n)
  where
    go : (b : Bool) → first (λ k. p (suc k)) n ≤ n → pick b zero (suc (first (λ k. p (suc k)) n)) ≤ suc n
    go true ih = omega arith
    go false ih = omega arith

pub first_below : (p : ℕ → Bool) (n k : ℕ) → k < first p n → p k ≡ false
unfolding first
first_below p zero k l = absurd (omega arith)
first_below p (suc n) k l = go (p zero) refl k (first_below (λ i. p (suc i)) n) l
  where
    go : (b : Bool) → p zero ≡ b → (k : ℕ) → ((i : ℕ) → i < first (λ i. p (suc i)) n → p (suc i) ≡ false)
        → k < pick b zero (suc (first (λ i. p (suc i)) n)) → p k ≡ false
    go true e k ih h = absurd (omega arith)
    go false e zero ih h = e
    go false e (suc k) ih h = ih k (omega arith)

pub first-here : (p : ℕ → Bool) (n : ℕ) → first p n < n → p (first p n) ≡ true
unfolding first
first-here p zero l = absurd (omega arith)
first-here p (suc n) l = go (p zero) refl (first-here (λ i. p (suc i)) n) l
  where
    go : (b : Bool) → p zero ≡ b → (first (λ i. p (suc i)) n < n → p (suc (first (λ i. p (suc i)) n)) ≡ true)
        → pick b zero (suc (first (λ i. p (suc i)) n)) < suc n → p (pick b zero (suc (first (λ i. p (suc i)) n))) ≡ true
    go true e ih h = e
    go false e ih h = ih (omega arith)

-- where something passes below n, the first is below n
pub first_found : (p : ℕ → Bool) (n k : ℕ) → k < n → p k ≡ true → first p n < n
first_found p n k l e =
    ⊎_elim (λ (h : n ≤ first p n). absurd (clash e (first_below p n k (omega arith)))) (λ h. h) (le-or-lt n (first p n))

pub first_ext : (p q : ℕ → Bool) (n : ℕ) → ((i : ℕ) → i < n → p i ≡ q i) → first p n ≡ first q n
unfolding first
first_ext p q zero h = refl
first_ext p q (suc n) h =
    ap₂ (λ (b : Bool) (x : ℕ). pick b 0 (suc x)) (h 0 (omega arith)) (first_ext (λ k. p (suc k)) (λ k. q (suc k)) n (λ i l. h (suc i) (omega arith)))

-- ---- `count`

pub count-more : (p : ℕ → Bool) (n : ℕ) → count p (n + 1) ≡ count p n + bit (p n)
unfolding count
count-more p n = rw add-one refl

pub count_ext : (p q : ℕ → Bool) (n : ℕ) → ((i : ℕ) → i < n → p i ≡ q i) → count p n ≡ count q n
unfolding count
count_ext p q zero h = refl
count_ext p q (suc n) h = ap₂ (λ (x : ℕ) (b : Bool). x + bit b) (count_ext p q n (λ i l. h i (omega arith))) (h n (omega arith))

pub count-le : (p : ℕ → Bool) (n : ℕ) → count p n ≤ n
unfolding count
count-le p zero = zero-le
count-le p (suc n) = omega (arith, count-le p n, bit_le (p n))

pub count-there : (p : ℕ → Bool) (n : ℕ) → p n ≡ true → count p (suc n) ≡ count p n + 1
unfolding count
count-there p n e = ap (λ (b : Bool). count p n + bit b) e

pub count-not-there : (p : ℕ → Bool) (n : ℕ) → p n ≡ false → count p (suc n) ≡ count p n
unfolding count
count-not-there p n e = omega (arith, bit-zero (p n) e)

-- more places hold no fewer
pub count-up : (p : ℕ → Bool) (m n : ℕ) → m ≤ n → count p m ≤ count p n
unfolding count
count-up p m zero l = let z : m ≡ 0 = omega arith in rw z (omega arith)
count-up p m (suc n) l = go (ℕ_discrete m (suc n)) (λ k. count-up p m n k)
  where
    go : Dec (m ≡ suc n) → (m ≤ n → count p m ≤ count p n) → count p m ≤ count p n + bit (p n)
    go (yes e) ih = rw e (omega arith)
    go (no e) ih = omega (arith, ih (omega arith))

-- a test that implies another holds no more often
pub count-sub : (p q : ℕ → Bool) (n : ℕ) → ((v : ℕ) → v < n → p v ≡ true → q v ≡ true) → count p n ≤ count q n
unfolding count
count-sub p q zero h = zero-le
count-sub p q (suc n) h = omega (arith, count-sub p q n (λ v l. h v (omega arith)), bit_mono (p n) (q n) (h n (omega arith)))

-- and less often, where the other holds alone at h
pub count_less : (p q : ℕ → Bool) (h n : ℕ) → h < n → ((v : ℕ) → v < n → p v ≡ true → q v ≡ true) → q h ≡ true → p h ≡ false
    → count p n < count q n
unfolding count
count_less p q h zero l sub there off = absurd (omega arith)
count_less p q h (suc n) l sub there off = go (ℕ_discrete h n) (λ k. count_less p q h n k (λ v m. sub v (omega arith)) there off)
  where
    go : Dec (h ≡ n) → (h < n → count p n < count q n) → count p n + bit (p n) < count q n + bit (q n)
    go (yes e) ih =
        omega (arith, count-sub p q n (λ v m. sub v (omega arith)), bit-zero (p n) (rw (← e) off), bit-one (q n) (rw (← e) there))
    go (no e) ih = omega (arith, ih (omega arith), bit_mono (p n) (q n) (sub n (omega arith)))

-- just once more often, where the two differ at h alone
pub count-put : (p q : ℕ → Bool) (h n : ℕ) → h < n → ((v : ℕ) → v < n → (v ≡ h → ⊥) → p v ≡ q v) → p h ≡ false → q h ≡ true → count q n ≡ count p n + 1
unfolding count
count-put p q h zero l same off there = absurd (omega arith)
count-put p q h (suc n) l same off there = go (ℕ_discrete h n) (λ m. count-put p q h n m (λ v b x. same v (omega arith) x) off there)
  where
    go : Dec (h ≡ n) → (h < n → count q n ≡ count p n + 1) → count q n + bit (q n) ≡ count p n + bit (p n) + 1
    go (yes e) ih =
        omega (arith, bit-one (q n) (rw e at there), bit-zero (p n) (rw e at off), count_ext p q n (λ v b. same v (omega arith) (λ x. omega arith)))
    go (no x) ih = omega (arith, ih (omega arith), ap bit (same n (omega arith) (λ e. omega arith)))

pub count_none : (p : ℕ → Bool) (n : ℕ) → ((i : ℕ) → i < n → p i ≡ false) → count p n ≡ 0
unfolding count
count_none p zero h = refl
count_none p (suc n) h = omega (arith, count_none p n (λ i l. h i (omega arith)), bit-zero (p n) (h n (omega arith)))

pub count-all : (p : ℕ → Bool) (n : ℕ) → ((i : ℕ) → i < n → p i ≡ true) → count p n ≡ n
unfolding count
count-all p zero h = refl
count-all p (suc n) h = omega (arith, count-all p n (λ i l. h i (omega arith)), bit-one (p n) (h n (omega arith)))

pub count-some : (p : ℕ → Bool) (n i : ℕ) → i < n → p i ≡ true → 0 < count p n
unfolding count
count-some p n i l e = omega (arith, count-up p (suc i) n l, count-there p i e)

-- what a count of 0, and one above 0, say
pub none-counted : (p : ℕ → Bool) (n : ℕ) → count p n ≡ 0 → (i : ℕ) → i < n → p i ≡ false
none-counted p n z i l = not-true (p i) (λ e. omega (arith, count-some p n i l e))

pub some-counted : (p : ℕ → Bool) (n : ℕ) → 0 < count p n → (i : ℕ) × (i < n) × (p i ≡ true)
some-counted p n l = go (all-or-some (λ i. p i ≡ false) (λ i. p i ≡ true) n (λ i h. swap (cases (p i))))
  where
    swap : {A B : Type 0} → A ⊎ B → B ⊎ A
    swap (inl a) = inr a
    swap (inr b) = inl b

    go : ((i : ℕ) → i < n → p i ≡ false) ⊎ ((i : ℕ) × (i < n) × (p i ≡ true)) → (i : ℕ) × (i < n) × (p i ≡ true)
    go (inl f) = absurd (omega (arith, count_none p n f))
    go (inr r) = r

-- a place at which p holds has a number among them, how many stand below it: each number below the count is some place's, and no two share one
pub count-nth : (p : ℕ → Bool) (n j : ℕ) → j < count p n → (i : ℕ) × (i < n) × (p i ≡ true) × (count p i ≡ j)
unfolding count
count-nth p zero j l = absurd (omega arith)
count-nth p (suc n) j l = go (le-or-lt (count p n) j) (cases (p n)) (count-nth p n j)
  where
    go : (count p n ≤ j) ⊎ (j < count p n) → (p n ≡ true) ⊎ (p n ≡ false) → (j < count p n → (i : ℕ) × (i < n) × (p i ≡ true) × (count p i ≡ j))
        → (i : ℕ) × (i < suc n) × (p i ≡ true) × (count p i ≡ j)
    go (inr m) e ih = let r = ih m in (r.0, omega (arith, r.1), r.2, r.3)
    go (inl m) (inl e) ih = (n, omega arith, e, omega (arith, bit-one (p n) e))
    go (inl m) (inr e) ih = absurd (omega (arith, bit-zero (p n) e))

pub count-apart : (p : ℕ → Bool) (i k : ℕ) → p i ≡ true → p k ≡ true → count p i ≡ count p k → i ≡ k
count-apart p i k e f same = go (le-or-lt i k) (le-or-lt k i)
  where
    go : (i ≤ k) ⊎ (k < i) → (k ≤ i) ⊎ (i < k) → i ≡ k
    go (inr l) x = absurd (omega (arith, count-up p (suc k) i l, count-there p k f))
    go (inl l) (inr m) = absurd (omega (arith, count-up p (suc i) k m, count-there p i e))
    go (inl l) (inl m) = omega arith

-- the first place apart from the others
pub count_shift : (p : ℕ → Bool) (n : ℕ) → count p (suc n) ≡ bit (p 0) + count (λ i. p (suc i)) n
unfolding count
count_shift p zero = omega arith
count_shift p (suc n) = omega (arith, count_shift p n)

-- a test that splits into two
pub count_split : (p q r : ℕ → Bool) (n : ℕ) → ((i : ℕ) → i < n → bit (p i) ≡ bit (q i) + bit (r i)) → count p n ≡ count q n + count r n
unfolding count
count_split p q r zero h = refl
count_split p q r (suc n) h = omega (arith, count_split p q r n (λ i l. h i (omega arith)), h n (omega arith))

-- the first k that hold, in ascending order: those with fewer than k below them
pub count_firsts : (p : ℕ → Bool) (k n : ℕ) → count (λ i. p i && ltb (count p i) k) n ≡ min k (count p n)
unfolding count
count_firsts p k zero = omega arith
count_firsts p k (suc n) = next (p n) (count p n) (count (λ i. p i && ltb (count p i) k) n) (count_firsts p k n)
  where
    next : (b : Bool) (c x : ℕ) → x ≡ min k c → x + bit (b && ltb c k) ≡ min k (c + bit b)
    next false c x h = omega arith
    next true c x h = go (le-or-lt k c)
      where
        go : (k ≤ c) ⊎ (c < k) → x + bit (ltb c k) ≡ min k (c + 1)
        go (inl l) = rw (le-ltb c k l) (omega arith)
        go (inr l) = rw (lt-ltb c k l) (omega arith)

-- ---- `any` and `every`

pub any-more : (p : ℕ → Bool) (n : ℕ) → any p (n + 1) ≡ any p n || p n
unfolding any
any-more p n = rw add-one refl

pub any_ext : (p q : ℕ → Bool) (n : ℕ) → ((i : ℕ) → i < n → p i ≡ q i) → any p n ≡ any q n
unfolding any
any_ext p q zero h = refl
any_ext p q (suc n) h = ap₂ ◌||◌ (any_ext p q n (λ i l. h i (omega arith))) (h n (omega arith))

pub any_intro : (p : ℕ → Bool) (n i : ℕ) → i < n → p i ≡ true → any p n ≡ true
unfolding any
any_intro p zero i l e = absurd (omega arith)
any_intro p (suc n) i l e = go (ℕ_discrete i n) (λ m. any_intro p n i m e)
  where
    go : Dec (i ≡ n) → (i < n → any p n ≡ true) → any p n || p n ≡ true
    go (yes q) ih = or_right (any p n) (p n) (rw (← q) e)
    go (no q) ih = or_left (any p n) (p n) (ih (omega arith))

pub any_elim : (p : ℕ → Bool) (n : ℕ) → any p n ≡ true → (i : ℕ) × (i < n) × (p i ≡ true)
unfolding any
any_elim p zero e = absurd (clash e refl)
any_elim p (suc n) e = go (or_cases (any p n) (p n) e) (any_elim p n)
  where
    go : (any p n ≡ true) ⊎ (p n ≡ true) → (any p n ≡ true → (i : ℕ) × (i < n) × (p i ≡ true)) → (i : ℕ) × (i < suc n) × (p i ≡ true)
    go (inl x) ih = let r = ih x in (r.0, omega (arith, r.1), r.2)
    go (inr x) ih = (n, omega arith, x)

pub any_none : (p : ℕ → Bool) (n : ℕ) → ((k : ℕ) → k < n → p k ≡ false) → any p n ≡ false
any_none p n h = not-true (any p n) (λ e. let r = any_elim p n e in clash r.2 (h r.0 r.1))

pub any_false : (p : ℕ → Bool) (n k : ℕ) → k < n → any p n ≡ false → p k ≡ false
any_false p n k l h = not-true (p k) (λ e. clash (any_intro p n k l e) h)

-- some place holds just where the count is not 0
pub any-count : (p : ℕ → Bool) (n : ℕ) → any p n ≡ not (eqb (count p n) 0)
any-count p n = go (cases (any p n))
  where
    go : (any p n ≡ true) ⊎ (any p n ≡ false) → any p n ≡ not (eqb (count p n) 0)
    go (inl e) = let r = any_elim p n e in rw (e, ne_eqb (count p n) 0 (λ z. omega (arith, count-some p n r.0 r.1 r.2))) refl
    go (inr e) = rw (e, eq-eqb (count p n) 0 (count_none p n (λ k l. any_false p n k l e))) refl

-- a test that holds at one place at most is counted by whether it holds
pub count-any : (p : ℕ → Bool) (n : ℕ) → ((i k : ℕ) → i < n → k < n → p i ≡ true → p k ≡ true → i ≡ k) → count p n ≡ bit (any p n)
count-any p n h = go (cases (any p n)) (le-or-lt (count p n) 1)
  where
    go : (any p n ≡ true) ⊎ (any p n ≡ false) → (count p n ≤ 1) ⊎ (1 < count p n) → count p n ≡ bit (any p n)
    go (inr e) x = rw e (count_none p n (λ k l. any_false p n k l e))
    go (inl e) (inl l) = let r = any_elim p n e in rw e (omega (arith, count-some p n r.0 r.1 r.2))
    go (inl e) (inr l) =
        let a = count-nth p n 0 (omega arith) in
        let b = count-nth p n 1 l in
        absurd (omega (arith, a.3, b.3, ap (count p) (h a.0 b.0 a.1 b.1 a.2 b.2)))

pub every-at : (p : ℕ → Bool) (n : ℕ) → every p n ≡ true → (v : ℕ) → v < n → p v ≡ true
unfolding every
every-at p zero t v l = absurd (omega arith)
every-at p (suc n) t v l = go (ℕ_discrete v n) (λ m. every-at p n (left-of (every p n) (p n) t) v m)
  where
    go : Dec (v ≡ n) → (v < n → p v ≡ true) → p v ≡ true
    go (yes e) ih = rw e (right_of (every p n) (p n) t)
    go (no x) ih = ih (omega arith)

pub every_intro : (p : ℕ → Bool) (n : ℕ) → ((v : ℕ) → v < n → p v ≡ true) → every p n ≡ true
unfolding every
every_intro p zero h = refl
every_intro p (suc n) h = both (every p n) (p n) (every_intro p n (λ v l. h v (omega arith))) (h n (omega arith))

pub every_ext : (p q : ℕ → Bool) (n : ℕ) → ((i : ℕ) → i < n → p i ≡ q i) → every p n ≡ every q n
unfolding every
every_ext p q zero h = refl
every_ext p q (suc n) h = ap₂ ◌&&◌ (every_ext p q n (λ i l. h i (omega arith))) (h n (omega arith))
