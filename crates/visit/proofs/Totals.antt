-- The WCETs of a set, added up member by member.
use mathlib.Core.Path.{◌≡◌, refl, sym, ap, fun_ext, ◌∙◌}
use mathlib.Core.Logic.{◌⊎◌, inl, inr}
use mathlib.Core.Bool.{Bool, true, false, not, ◌&&◌, and-true}
use mathlib.Core.List.{List}
use Prim.Native.Nat.{ℕ, ◌+◌, ◌-◌, ◌*◌, ◌^◌, ◌≤◌, ◌<◌}
use native.Mathlib.Omega.{arith}
use native.Mathlib.Decide.{ℕ_discrete}
use lib.Dec.{eqb}
use lib.ListN.{get_or}
use borrow.Author.Tests.{eq-eqb, ne_eqb}
use Rattle.model.specs.Places.{pick, bit}
use Rattle.model.proofs.Bools.{le-or-lt}
use Rattle.model.proofs.Sums.{sum_ext, sum-add, sum_single, sum-zero, sum-most}
use Rattle.vset.specs.declared.Vset.{Vset}
use Rattle.vset.specs.Members.{is_in, has, num}
use Rattle.vset.proofs.Digits.{has-zero}
use Rattle.vset.proofs.Words.{test_low, test-high}
use Rattle.visit.specs.Cells.{total_of}

module _ (c : List ℕ) where
  -- without the member t, its WCET less
  pub total-less : (p q : ℕ → Bool) (t : ℕ) → t < 128 → p t ≡ true → ((w : ℕ) → q w ≡ p w && not (eqb w t)) → total_of c p ≡ total_of c q + get_or c t 0
  total-less p q t l here less =
      omega (
        arith,
        sum_ext (λ w. pick (p w) (get_or c w 0) 0) (λ w. pick (q w) (get_or c w 0) 0 + bit (eqb t w) * get_or c w 0) 128 (λ w k. each w),
        sum-add (λ w. pick (q w) (get_or c w 0) 0) (λ w. bit (eqb t w) * get_or c w 0) 128,
        sum_single (λ w. get_or c w 0) t 128 l,
      )
    where
      each : (w : ℕ) → pick (p w) (get_or c w 0) 0 ≡ pick (q w) (get_or c w 0) 0 + bit (eqb t w) * get_or c w 0
      each w = rw (less w) (go (ℕ_discrete w t))
        where
          go : Dec (w ≡ t) → pick (p w) (get_or c w 0) 0 ≡ pick (p w && not (eqb w t)) (get_or c w 0) 0 + bit (eqb t w) * get_or c w 0
          go (yes e) = rw (e, here, eq-eqb t t refl) (omega arith)
          go (no e) = rw (ne_eqb w t e, ne_eqb t w (λ q. e (sym q)), and-true (p w)) (omega arith)

  pub total_ext : {p q : ℕ → Bool} → ((w : ℕ) → p w ≡ q w) → total_of c p ≡ total_of c q
  total_ext e = ap (total_of c) (fun_ext e)

  pub total-none : (p : ℕ → Bool) → ((w : ℕ) → p w ≡ false) → total_of c p ≡ 0
  total-none p none = sum-zero (λ w. pick (p w) (get_or c w 0) 0) 128 (λ w l. rw (none w) refl)

  -- the members of the low word, and those of the high one
  pub total-words : (s : Vset) → s.lo < 2 ^ 64 → total_of c (is_in s) ≡ total_of c (is_in (record { lo = s.lo; hi = 0 })) + total_of c (is_in (record { lo = 0; hi = s.hi }))
  unfolding is_in
  total-words s l =
      sum_ext (λ w. pick (has (num s.lo s.hi) w) (get_or c w 0) 0) (λ w. pick (has (num s.lo 0) w) (get_or c w 0) 0 + pick (has (num 0 s.hi) w) (get_or c w 0) 0) 128 (λ w k. one_of w (le-or-lt 64 w))
      ∙ sum-add (λ w. pick (has (num s.lo 0) w) (get_or c w 0) 0) (λ w. pick (has (num 0 s.hi) w) (get_or c w 0) 0) 128
    where
      one_of : (w : ℕ) → (64 ≤ w) ⊎ (w < 64) → pick (has (num s.lo s.hi) w) (get_or c w 0) 0 ≡ pick (has (num s.lo 0) w) (get_or c w 0) 0 + pick (has (num 0 s.hi) w) (get_or c w 0) 0
      one_of w (inl h) = rw (test-high s.lo s.hi w l h, test-high s.lo 0 w l h ∙ has-zero (w - 64), test-high 0 s.hi w (omega arith) h) (omega arith)
      one_of w (inr h) = rw (test_low s.lo s.hi w h, test_low s.lo 0 w h, test_low 0 s.hi w h ∙ has-zero w) (omega arith)

  pub total-small : ((w : ℕ) → get_or c w 0 ≤ 1000000) → (p : ℕ → Bool) → total_of c p ≤ 128000000
  total-small short p = omega (arith, sum-most (λ w. pick (p w) (get_or c w 0) 0) 1000000 128 (λ w l. each w (p w)))
    where
      each : (w : ℕ) (b : Bool) → pick b (get_or c w 0) 0 ≤ 1000000
      each w true = short w
      each w false = omega arith
