-- The WCETs of each kind, added up vertex by vertex: the sum of a graph's first vertices is that of the graph that has no more.
use mathlib.Core.Path.{◌≡◌, refl, sym, ap, ◌∙◌}
use mathlib.Core.Bool.{Bool, true, false}
use mathlib.Core.List.{List}
use Prim.Native.Nat.{ℕ, ◌+◌, ◌*◌, ◌≤◌, ◌<◌}
use native.Mathlib.Numerals.{add-one}
use native.Mathlib.Omega.{arith}
use native.Mathlib.Decide.{ℕ_discrete}
use lib.Dec.{eqb}
use lib.ListN.{get_or, length, set, replicate, length-set, length-replicate, get_or-replicate}
use lib.Seq.{get_or-set_same, get_or-set_other}
use borrow.Author.Tests.{eq-eqb, ne_eqb}
use Rattle.model.specs.Places.{pick, sum}
use Rattle.model.specs.Bounds.{vol}
use Rattle.model.proofs.Sums.{sum_more, sum-most}
use Rattle.weights.specs.Weight.{stages, Small}

module _ (k c m : List ℕ) (kinds : ℕ) where
  -- the table after v vertices
  pub record Added (l : List ℕ) (v : ℕ) : Type 0 where
    pub size : length l ≡ 10
    pub sums : (s : ℕ) → s < 10 → get_or l s 0 ≡ vol (stages k c m kinds v) s

  pub added_none : Added (replicate 10 0) 0
  unfolding vol sum
  added_none = record { size = length-replicate {A = ℕ} 10 0; sums = λ s h. get_or-replicate 10 s 0 0 h }

  vol-more : (v s : ℕ) → vol (stages k c m kinds (v + 1)) s ≡ vol (stages k c m kinds v) s + pick (eqb (get_or k v 0) s) (get_or c v 0) 0
  unfolding vol
  vol-more v s =
      let f : ℕ → ℕ = λ u. pick (eqb (get_or k u 0) s) (get_or c u 0) 0 in
      ap (sum f) (add-one v) ∙ sum_more f v

  pub added_more : (l : List ℕ) (v s x : ℕ) → s < 10 → s ≡ get_or k v 0 → x ≡ get_or l s 0 + get_or c v 0 → Added l v → Added (set l s x) (v + 1)
  added_more l v s x h q e A = record { size = length-set l s x ∙ A.size; sums = λ t g. go t g (ℕ_discrete t s) }
    where
      go : (t : ℕ) → t < 10 → Dec (t ≡ s) → get_or (set l s x) t 0 ≡ vol (stages k c m kinds (v + 1)) t
      go t g (yes z) =
          let d : pick (eqb (get_or k v 0) s) (get_or c v 0) 0 ≡ get_or c v 0 = rw (eq-eqb (get_or k v 0) s (sym q)) refl in
          rw z (omega (arith, get_or-set_same l s x 0 (omega (arith, A.size)), A.sums s h, vol-more v s))
      go t g (no z) =
          let d : pick (eqb (get_or k v 0) t) (get_or c v 0) 0 ≡ 0 = rw (ne_eqb (get_or k v 0) t (λ y. z (sym (q ∙ y)))) refl in
          omega (arith, get_or-set_other l s t x 0 z, A.sums t g, vol-more v t)

  under : (b : Bool) (x d : ℕ) → x ≤ d → pick b x 0 ≤ d
  under true x d l = l
  under false x d l = omega arith

  pub vol-small : (n : ℕ) → Small (stages k c m kinds n) → (v s : ℕ) → v ≤ n → vol (stages k c m kinds v) s ≤ 1000000 * v
  unfolding vol
  vol-small n S v s l =
      sum-most (λ u. pick (eqb (get_or k u 0) s) (get_or c u 0) 0) 1000000 v (λ u h. under (eqb (get_or k u 0) s) (get_or c u 0) 1000000 (S.short u (omega arith)))
