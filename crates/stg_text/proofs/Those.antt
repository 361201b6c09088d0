-- The numbers for which a test holds, ascending: they are the list that has just these members and ascends.
use mathlib.Core.Path.{◌≡◌, refl, sym, ap, ◌∙◌}
use mathlib.Core.Bool.{Bool, true, false, ◌&&◌, ◌||◌, or-false, or-true}
use mathlib.Core.List.{List, [], ◌∷◌, ◌++◌, append-nil, append_assoc}
use mathlib.Core.Logic.{◌⊎◌, inl, inr}
use Prim.Native.Nat.{ℕ, zero, suc, ◌+◌, ◌≤◌, ◌<◌, zero-le}
use native.Mathlib.Omega.{arith}
use native.Mathlib.Decide.{ℕ_discrete}
use lib.ListN.{length, get_or}
use lib.Dec.{eqb, ltb}
use borrow.Author.Tests.{eq-eqb, ne_eqb, eqb-true, lt-ltb, le-ltb, ltb-true, ltb-false}
use Rattle.model.specs.Places.{pick, that}
use Rattle.model.proofs.Bools.{clash, cases, or_cases, or_left, or_right}
use Rattle.stg_text.specs.Fields.{all, member, distinct}
use Rattle.stg_text.proofs.Pieces.{all_append}

-- ---- members

pub member-append : (u : ℕ) (a b : List ℕ) → member u (a ++ b) ≡ member u a || member u b
member-append u [] b = refl
member-append u (x ∷ a) b = go (eqb u x) (member-append u a b)
  where
    go : (c : Bool) → member u (a ++ b) ≡ member u a || member u b → c || member u (a ++ b) ≡ (c || member u a) || member u b
    go true ih = refl
    go false ih = ih

pub member-at : (xs : List ℕ) (i : ℕ) → i < length xs → member (get_or xs i 0) xs ≡ true
member-at [] i l = absurd (omega arith)
member-at (x ∷ xs) zero l = or_left (eqb x x) (member x xs) (eq-eqb x x refl)
member-at (x ∷ xs) (suc i) l = or_right (eqb (get_or xs i 0) x) (member (get_or xs i 0) xs) (member-at xs i (omega arith))

pub member-place : (u : ℕ) (xs : List ℕ) → member u xs ≡ true → (i : ℕ) × (i < length xs) × (get_or xs i 0 ≡ u)
member-place u [] e = absurd (clash e refl)
member-place u (x ∷ xs) e = go (or_cases (eqb u x) (member u xs) e) (member-place u xs)
  where
    go : (eqb u x ≡ true) ⊎ (member u xs ≡ true) → (member u xs ≡ true → (i : ℕ) × (i < length xs) × (get_or xs i 0 ≡ u))
        → (i : ℕ) × (i < suc (length xs)) × (get_or (x ∷ xs) i 0 ≡ u)
    go (inl h) ih = (0, omega arith, sym (eqb-true u x h))
    go (inr h) ih = let r = ih h in (suc r.0, omega arith, r.2)

-- ---- the list

pub those_ext : (p q : ℕ → Bool) (n : ℕ) → ((k : ℕ) → k < n → p k ≡ q k) → that p n ≡ that q n
unfolding that
those_ext p q zero h = refl
those_ext p q (suc n) h = rw (h n (omega arith), those_ext p q n (λ k l. h k (omega arith))) refl

pub member_those : (p : ℕ → Bool) (n u : ℕ) → member u (that p n) ≡ ltb u n && p u
unfolding that
member_those p zero u = rw (le-ltb u 0 zero-le) refl
member_those p (suc n) u =
    member-append u (that p n) (pick (p n) (n ∷ []) []) ∙ rw (member_those p n u) (go (ℕ_discrete u n) (p n) refl)
  where
    go : Dec (u ≡ n) → (b : Bool) → p n ≡ b → (ltb u n && p u) || member u (pick b (n ∷ []) []) ≡ ltb u (suc n) && p u
    go (yes e) true q = rw (e, q, lt-ltb n (suc n) (omega arith), eq-eqb n n refl, or-true) refl
    go (yes e) false q = rw (e, q, lt-ltb n (suc n) (omega arith), le-ltb n n (omega arith)) refl
    go (no d) b q = rw (rest b) (rw or-false (ap (λ (x : Bool). x && p u) (far (cases (ltb u n)))))
      where
        rest : (b : Bool) → member u (pick b (n ∷ []) []) ≡ false
        rest true = rw (ne_eqb u n d) refl
        rest false = refl

        far : (ltb u n ≡ true) ⊎ (ltb u n ≡ false) → ltb u n ≡ ltb u (suc n)
        far (inl t) = t ∙ sym (lt-ltb u (suc n) (omega (arith, ltb-true u n t)))
        far (inr f) = f ∙ sym (le-ltb u (suc n) (omega (arith, ltb-false u n f)))

pub those_all : (q p : ℕ → Bool) (n : ℕ) → ((k : ℕ) → k < n → q k ≡ true) → all q (that p n) ≡ true
unfolding that
those_all q p zero h = refl
those_all q p (suc n) h =
    all_append q (that p n) (pick (p n) (n ∷ []) []) (those_all q p n (λ k l. h k (omega arith))) (go (p n))
  where
    go : (b : Bool) → all q (pick b (n ∷ []) []) ≡ true
    go true = rw (h n (omega arith)) refl
    go false = refl

-- a list that ascends from lo on, below hi
pub data Ascends (hi : ℕ) : ℕ → List ℕ → Type 0 where
  nil : {lo : ℕ} → Ascends hi lo []
  cons : {lo x : ℕ} {xs : List ℕ} → lo ≤ x → x < hi → Ascends hi (suc x) xs → Ascends hi lo (x ∷ xs)

-- nothing below lo is a member
above : {hi : ℕ} (lo : ℕ) (xs : List ℕ) → Ascends hi lo xs → (u : ℕ) → u < lo → member u xs ≡ false
above lo [] nil u l = refl
above lo (x ∷ xs) (cons a b r) u l = rw (ne_eqb u x (λ e. omega arith), above (suc x) xs r u (omega arith)) refl

pub ascends-distinct : {hi : ℕ} (lo : ℕ) (xs : List ℕ) → Ascends hi lo xs → distinct xs ≡ true
ascends-distinct lo [] nil = refl
ascends-distinct lo (x ∷ xs) (cons a b r) = rw (above (suc x) xs r x (omega arith), ascends-distinct (suc x) xs r) refl

pub ascends-length : {hi : ℕ} (lo : ℕ) (xs : List ℕ) → Ascends hi lo xs → lo ≤ hi → lo + length xs ≤ hi
ascends-length lo [] nil l = omega arith
ascends-length lo (x ∷ xs) (cons a b r) l = omega (arith, ascends-length (suc x) xs r (omega arith))

-- one more at the end
ascends-more : {hi : ℕ} (lo : ℕ) (xs : List ℕ) (x : ℕ) → Ascends hi lo xs → lo ≤ x → hi ≤ x → Ascends (suc x) lo (xs ++ (x ∷ []))
ascends-more lo [] x nil l h = cons l (omega arith) nil
ascends-more lo (y ∷ xs) x (cons a b r) l h = cons a (omega arith) (ascends-more (suc y) xs x r (omega arith) h)

ascends_wider : {hi : ℕ} (lo : ℕ) (xs : List ℕ) → Ascends hi lo xs → Ascends (suc hi) lo xs
ascends_wider lo [] nil = nil
ascends_wider lo (x ∷ xs) (cons a b r) = cons a (omega arith) (ascends_wider (suc x) xs r)

pub those_ascends : (p : ℕ → Bool) (n : ℕ) → Ascends n 0 (that p n)
unfolding that
those_ascends p zero = nil
those_ascends p (suc n) = go (p n) (those_ascends p n)
  where
    go : (b : Bool) → Ascends n 0 (that p n) → Ascends (suc n) 0 (that p n ++ pick b (n ∷ []) [])
    go true r = ascends-more 0 (that p n) n r zero-le (omega arith)
    go false r = rw (append-nil (that p n)) (ascends_wider 0 (that p n) r)

-- the same, from lo on, the lowest first
from : (ℕ → Bool) → ℕ → ℕ → List ℕ
from p lo zero = []
from p lo (suc k) = pick (p lo) (lo ∷ []) [] ++ from p (suc lo) k

from_more : (p : ℕ → Bool) (lo k : ℕ) → from p lo (suc k) ≡ from p lo k ++ pick (p (lo + k)) ((lo + k) ∷ []) []
unfolding from
from_more p lo zero = let e : lo + 0 ≡ lo = omega arith in rw (e, append-nil (pick (p lo) (lo ∷ []) [])) refl
from_more p lo (suc k) =
    let e : suc lo + k ≡ lo + suc k = omega arith in
    rw (append_assoc (pick (p lo) (lo ∷ []) []) (from p (suc lo) k) (pick (p (lo + suc k)) ((lo + suc k) ∷ []) []), ← e)
    (ap (λ (r : List ℕ). pick (p lo) (lo ∷ []) [] ++ r) (from_more p (suc lo) k))

those_from : (p : ℕ → Bool) (n : ℕ) → that p n ≡ from p 0 n
unfolding that from
those_from p zero = refl
those_from p (suc n) =
    let e : 0 + n ≡ n = omega arith in
    rw (those_from p n) (sym (rw e at (from_more p 0 n)))

from_ext : (p q : ℕ → Bool) (lo k : ℕ) → ((u : ℕ) → lo ≤ u → p u ≡ q u) → from p lo k ≡ from q lo k
unfolding from
from_ext p q lo zero h = refl
from_ext p q lo (suc k) h = rw (h lo (omega arith), from_ext p q (suc lo) k (λ u l. h u (omega arith))) refl

from-members : (lo k : ℕ) (xs : List ℕ) → Ascends (lo + k) lo xs → from (λ u. member u xs) lo k ≡ xs
unfolding from
from-members lo zero [] nil = refl
from-members lo zero (x ∷ xs) (cons a b r) = absurd (omega arith)
from-members lo (suc k) [] nil = from-members (suc lo) k [] nil
from-members lo (suc k) (x ∷ xs) (cons a b r) =
    go (ℕ_discrete lo x) (λ q. from-members (suc lo) k xs (rw (← q, hi) at r)) (λ q. from-members (suc lo) k (x ∷ xs) (cons q (rw hi at b) (rw hi at r)))
  where
    hi : lo + suc k ≡ suc lo + k
    hi = omega arith

    go : Dec (lo ≡ x) → (lo ≡ x → from (λ u. member u xs) (suc lo) k ≡ xs) → (suc lo ≤ x → from (λ u. member u (x ∷ xs)) (suc lo) k ≡ x ∷ xs)
        → pick (member lo (x ∷ xs)) (lo ∷ []) [] ++ from (λ u. member u (x ∷ xs)) (suc lo) k ≡ x ∷ xs
    go (yes e) here later =
        rw (eq-eqb lo x e, from_ext (λ u. member u (x ∷ xs)) (λ u. member u xs) (suc lo) k (λ u l. rw (ne_eqb u x (λ q. omega arith)) refl), here e, e) refl
    go (no d) here later =
        rw (ne_eqb lo x d, above (suc x) xs r lo (omega arith)) (later (omega arith))

pub those_members : (n : ℕ) (xs : List ℕ) → Ascends n 0 xs → that (λ u. member u xs) n ≡ xs
those_members n xs h = let e : 0 + n ≡ n = omega arith in those_from (λ u. member u xs) n ∙ from-members 0 n xs (rw e h)

-- a list that ascends place by place
pub ascends-places : (hi lo : ℕ) (xs : List ℕ) → ((i : ℕ) → suc i < length xs → get_or xs i 0 < get_or xs (suc i) 0) → ((i : ℕ) → i < length xs → get_or xs i 0 < hi)
    → (0 < length xs → lo ≤ get_or xs 0 0) → Ascends hi lo xs
ascends-places hi lo [] up below start = nil
ascends-places hi lo (x ∷ xs) up below start =
    cons (start (omega arith)) (below 0 (omega arith))
    (ascends-places hi (suc x) xs (λ i l. up (suc i) (omega arith)) (λ i l. below (suc i) (omega arith)) (λ l. up 0 (omega arith)))

-- ---- one number more, and numbers that add nothing

pub those_one : (p : ℕ → Bool) (k : ℕ) → p k ≡ true → that p (suc k) ≡ that p k ++ (k ∷ [])
unfolding that
those_one p k e = rw e refl

pub those_quiet : (p : ℕ → Bool) (k d : ℕ) → ((j : ℕ) → k ≤ j → j < k + d → p j ≡ false) → that p (k + d) ≡ that p k
unfolding that
those_quiet p k zero h = let e : k + 0 ≡ k = omega arith in rw e refl
those_quiet p k (suc d) h =
    let e : k + suc d ≡ suc (k + d) = omega arith in
    rw (e, h (k + d) (omega arith) (omega arith)) (append-nil (that p (k + d)) ∙ those_quiet p k d (λ j a b. h j a (omega arith)))
