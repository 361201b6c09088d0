-- The rank of a member: how many stand below it. A member of rank j is the least of those of rank j or more, so that taking the
-- lowest one n times takes the first n.
use mathlib.Core.Path.{◌≡◌, refl, sym, ap, ap₂, ◌∙◌}
use mathlib.Core.Logic.{⊎_elim}
use mathlib.Core.Bool.{Bool, true, false, not, ◌&&◌, ◌||◌, or-true, or-false, and-true, and-false}
use Prim.Native.Nat.{ℕ, zero, suc, ◌+◌, ◌≤◌, ◌<◌, zero-le}
use native.Mathlib.Omega.{arith}
use lib.Dec.{ltb, eqb}
use borrow.Author.Tests.{lt-ltb, le-ltb, ltb-false, eqb-true, eqb-false}
use Rattle.model.specs.Places.{count}
use Rattle.model.proofs.Bools.{cases, clash, le-or-lt}
use Rattle.model.proofs.Places.{count-there, count-not-there, count-up}

-- the first n: the members of rank below n
abbrev pub firsts : (ℕ → Bool) → ℕ → ℕ → Bool
firsts p n k = p k && ltb (count p k) n

-- the rest: the members of rank n or more
abbrev pub lasts : (ℕ → Bool) → ℕ → ℕ → Bool
lasts p n k = p k && not (ltb (count p k) n)

-- where nobody below t is of rank j or more, at most j members stand below t
pub rank-le : (p : ℕ → Bool) (j t : ℕ) → ((k : ℕ) → k < t → lasts p j k ≡ false) → count p t ≤ j
unfolding count
rank-le p j zero h = omega arith
rank-le p j (suc t) h = go (rank-le p j t (λ k l. h k (omega arith))) (p t) refl (h t (omega arith))
  where
    go : count p t ≤ j → (b : Bool) → p t ≡ b → lasts p j t ≡ false → count p (suc t) ≤ j
    go ih false e q = omega (arith, ih, count-not-there p t e)
    go ih true e q =
        ⊎_elim
        (λ (l : j ≤ count p t). absurd (clash (ap₂ (λ (x y : Bool). x && not y) e (le-ltb (count p t) j l)) q))
        (λ (l : count p t < j). omega (arith, count-there p t e))
        (le-or-lt j (count p t))

-- the least of the rest has the rank j
pub rank-of-least : (p : ℕ → Bool) (j t : ℕ) → lasts p j t ≡ true → ((k : ℕ) → k < t → lasts p j k ≡ false) → (p t ≡ true) × (count p t ≡ j)
rank-of-least p j t here below =
    let h = split (p t) (ltb (count p t) j) here in
    (h.0, omega (arith, rank-le p j t below, ltb-false (count p t) j h.1))
  where
    split : (a b : Bool) → a && not b ≡ true → (a ≡ true) × (b ≡ false)
    split true false e = (refl, refl)
    split true true e = absurd (clash e refl)
    split false b e = absurd (clash e refl)

module _ (p : ℕ → Bool) (t j : ℕ) (e : p t ≡ true) (r : count p t ≡ j) where
  -- for any other member, being below j and being below j + 1 is one
  other : (k : ℕ) → p k ≡ true → (k ≡ t → ⊥) → ltb (count p k) (j + 1) ≡ ltb (count p k) j
  other k ek ne =
      ⊎_elim
      (λ (l : t ≤ k).
      let g : suc t ≤ k = omega arith in
      let m = count-up p (suc t) k g in
      let n = count-there p t e in
      le-ltb (count p k) (j + 1) (omega arith) ∙ sym (le-ltb (count p k) j (omega arith)))
      (λ (l : k < t).
      let m = count-up p (suc k) t l in
      let n = count-there p k ek in
      lt-ltb (count p k) (j + 1) (omega arith) ∙ sym (lt-ltb (count p k) j (omega arith)))
      (le-or-lt t k)

  -- at t itself
  at : (k : ℕ) → k ≡ t → (p k ≡ true) × (count p k ≡ j)
  at k q = (ap p q ∙ e, ap (λ (x : ℕ). count p x) q ∙ r)

  same : (f : Bool → Bool → Bool) (k : ℕ) → ((x y : Bool) → f false x ≡ f false y) → (k ≡ t → ⊥) → f (p k) (ltb (count p k) j) ≡ f (p k) (ltb (count p k) (j + 1))
  same f k nil ne =
      ⊎_elim
      (λ ek. ap (f (p k)) (sym (other k ek ne)))
      (λ ek. rw ek (nil (ltb (count p k) j) (ltb (count p k) (j + 1))))
      (cases (p k))

  pub firsts_step : (k : ℕ) → firsts p j k || eqb k t ≡ firsts p (j + 1) k
  firsts_step k =
      ⊎_elim
      (λ (q : eqb k t ≡ true).
      let h = at k (eqb-true k t q) in
      ap (λ (x : Bool). firsts p j k || x) q ∙ or-true (firsts p j k) ∙ sym (ap₂ ◌&&◌ h.0 (lt-ltb (count p k) (j + 1) (omega arith))))
      (λ (q : eqb k t ≡ false).
      ap (λ (x : Bool). firsts p j k || x) q ∙ or-false (firsts p j k) ∙ same ◌&&◌ k (λ x y. refl) (eqb-false k t q))
      (cases (eqb k t))

  pub lasts-step : (k : ℕ) → lasts p j k && not (eqb k t) ≡ lasts p (j + 1) k
  lasts-step k =
      ⊎_elim
      (λ (q : eqb k t ≡ true).
      let h = at k (eqb-true k t q) in
      ap (λ (x : Bool). lasts p j k && not x) q ∙ and-false (lasts p j k) ∙ sym (ap₂ (λ (x y : Bool). x && not y) h.0 (lt-ltb (count p k) (j + 1) (omega arith))))
      (λ (q : eqb k t ≡ false).
      ap (λ (x : Bool). lasts p j k && not x) q ∙ and-true (lasts p j k) ∙ same (λ x y. x && not y) k (λ x y. refl) (eqb-false k t q))
      (cases (eqb k t))

-- nobody is of rank below 0
pub firsts_none : (p : ℕ → Bool) (k : ℕ) → false ≡ firsts p 0 k
firsts_none p k = sym (ap (λ (x : Bool). p k && x) (le-ltb (count p k) 0 zero-le) ∙ and-false (p k))

pub lasts-all : (p : ℕ → Bool) (k : ℕ) → p k ≡ lasts p 0 k
lasts-all p k = sym (ap (λ (x : Bool). p k && not x) (le-ltb (count p k) 0 zero-le) ∙ and-true (p k))

-- as many as there are is enough
pub firsts_enough : (p : ℕ → Bool) (n k : ℕ) → ((i : ℕ) → 128 ≤ i → p i ≡ false) → count p 128 ≤ n → firsts p (count p 128) k ≡ firsts p n k
firsts_enough p n k out l =
    ⊎_elim
    (λ (g : 128 ≤ k). rw (out k g) refl)
    (λ (g : k < 128).
    ⊎_elim
    (λ (ek : p k ≡ true).
    let m = count-up p (suc k) 128 g in
    let t = count-there p k ek in
    ap (λ (x : Bool). p k && x) (lt-ltb (count p k) (count p 128) (omega arith) ∙ sym (lt-ltb (count p k) n (omega arith))))
    (λ (ek : p k ≡ false). rw ek refl)
    (cases (p k)))
    (le-or-lt 128 k)
