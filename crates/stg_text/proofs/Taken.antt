-- The numbers for which a test holds, taken one by one, the lowest first: they come as the list of them. Nothing here is about texts.
use mathlib.Core.Path.{◌≡◌, refl, sym, ap, ◌∙◌}
use mathlib.Core.Bool.{Bool, true, false, not, ◌&&◌, and-true, and-false}
use mathlib.Core.List.{[], ◌∷◌, ◌++◌}
use mathlib.Core.Logic.{◌⊎◌, inl, inr}
use Prim.Native.Nat.{ℕ, suc, ◌+◌, ◌-◌, ◌≤◌, ◌<◌, zero-le}
use native.Mathlib.Omega.{arith}
use native.Mathlib.Decide.{ℕ_discrete}
use lib.Dec.{eqb, ltb}
use borrow.Author.Tests.{eq-eqb, ne_eqb, lt-ltb, le-ltb, ltb-false}
use Rattle.model.specs.Places.{first, any, that}
use Rattle.model.proofs.Bools.{clash, le-or-lt, left-of, right_of, not-true, not-is-true}
use Rattle.model.proofs.Places.{first_below, any_intro}
use Rattle.stg_text.proofs.Those.{those_one, those_quiet}

-- no number is left, as a loop's test says
pub none_left : (rest : ℕ → Bool) (e : Bool) → e ≡ not (any rest 128) → not e ≡ false → (v : ℕ) → v < 128 → rest v ≡ false
none_left rest e is h v l = not-true (rest v) (λ t. clash (ap not is ∙ rw (any_intro rest 128 v l t) refl) h)

-- of the numbers below 128 for which the test holds, the rest has those from w on
pub record Upto (set rest : ℕ → Bool) (w : ℕ) : Type 0 where
  pub far : w ≤ 128
  pub left : (v : ℕ) → v < 128 → rest v ≡ not (ltb v w) && set v

pub upto_none : (set : ℕ → Bool) → Upto set set 0
upto_none set = record { far = zero-le; left = λ v h. rw (le-ltb v 0 zero-le) refl }

-- from w on, what is not in the rest is not in the set
outside : (set rest : ℕ → Bool) (w : ℕ) → Upto set rest w → (v : ℕ) → v < 128 → w ≤ v → rest v ≡ false → set v ≡ false
outside set rest w U v m h q = (rw (le-ltb v w h) at (sym (U.left v m))) ∙ q

module _ (set rest : ℕ → Bool) (w : ℕ) (U : Upto set rest w) where
  -- the lowest is taken
  module _ (t : ℕ) (e : t ≡ first rest 128) (l : t < 128) (here : rest t ≡ true) where
    told : not (ltb t w) && set t ≡ true
    told = sym (U.left t l) ∙ here

    inside : set t ≡ true
    inside = right_of (not (ltb t w)) (set t) told

    from : w ≤ t
    from = ltb-false t w (not-is-true (ltb t w) (left-of (not (ltb t w)) (set t) told))

    rest-quiet : (v : ℕ) → v < t → rest v ≡ false
    rest-quiet v h = first_below rest 128 v (rw (← e) h)

    pub upto_more : (next : ℕ → Bool) → ((k : ℕ) → next k ≡ rest k && not (eqb k t)) → Upto set next (suc t)
    upto_more next is-next = record { far = l; left = λ v h. is-next v ∙ after v h (ℕ_discrete v t) (le-or-lt v t) }
      where
        after : (v : ℕ) → v < 128 → Dec (v ≡ t) → (v ≤ t) ⊎ (t < v) → rest v && not (eqb v t) ≡ not (ltb v (suc t)) && set v
        after v h (yes q) o = rw (q, eq-eqb t t refl, lt-ltb t (suc t) (omega arith), and-false (rest t)) refl
        after v h (no d) (inl o) = rw (rest-quiet v (omega arith), lt-ltb v (suc t) (omega arith)) refl
        after v h (no d) (inr o) = rw (ne_eqb v t d, and-true (rest v), le-ltb v (suc t) (omega arith)) (U.left v h ∙ rw (le-ltb v w (omega (arith, from))) refl)

    -- as it is of p, the same test of the numbers from b on
    pub those_more : (b : ℕ) (p : ℕ → Bool) → ((v : ℕ) → v < 128 → p (b + v) ≡ set v) → that p (b + suc t) ≡ that p (b + w) ++ ((b + t) ∷ [])
    those_more b p same =
        let d : b + w + (t - w) ≡ b + t = omega (arith, from) in
        let s : b + suc t ≡ suc (b + t) = omega arith in
        let q : that p (b + t) ≡ that p (b + w) =
        rw d at (those_quiet p (b + w) (t - w) (λ j a c.
        let e' : b + (j - b) ≡ j = omega arith in
        let m : j - b < 128 = omega (arith, from) in
        rw e' at (same (j - b) m ∙ outside set rest w U (j - b) m (omega arith) (rest-quiet (j - b) (omega (arith, from)))))) in
        rw (s, those_one p (b + t) (same t l ∙ inside), q) refl

  -- none is left
  pub those_done : (b : ℕ) (p : ℕ → Bool) → ((v : ℕ) → v < 128 → p (b + v) ≡ set v) → ((v : ℕ) → v < 128 → rest v ≡ false) → that p (b + 128) ≡ that p (b + w)
  those_done b p same none =
      let d : b + w + (128 - w) ≡ b + 128 = omega (arith, U.far) in
      rw d at (those_quiet p (b + w) (128 - w) (λ j a c.
      let e' : b + (j - b) ≡ j = omega arith in
      let m : j - b < 128 = omega (arith, U.far) in
      rw e' at (same (j - b) m ∙ outside set rest w U (j - b) m (omega arith) (none (j - b) m))))
