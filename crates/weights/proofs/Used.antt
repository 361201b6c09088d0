-- The kinds that a vertex has, marked vertex by vertex, and the largest core number among them, kind by kind.
use mathlib.Core.Path.{◌≡◌, refl, sym, ap₂, ◌∙◌}
use mathlib.Core.Bool.{Bool, true, false, ◌||◌, or-true, or-false}
use mathlib.Core.List.{List}
use Prim.Native.Nat.{ℕ, ◌+◌, ◌<◌, max}
use native.Mathlib.Omega.{arith}
use native.Mathlib.Decide.{ℕ_discrete}
use lib.Dec.{eqb}
use lib.ListN.{get_or, length, set, replicate, length-set, length-replicate, get_or-replicate}
use lib.Seq.{get_or-set_same, get_or-set_other}
use borrow.Author.Tests.{eq-eqb, ne_eqb}
use Rattle.model.specs.Places.{any, largest}
use Rattle.model.proofs.Places.{any-more}
use Rattle.model.proofs.Sums.{largest-more}

module _ (k : List ℕ) where
  -- some vertex before v has the kind s
  abbrev pub has : ℕ → ℕ → Bool
  has v s = any (λ u. eqb (get_or k u 0) s) v

  -- the table after v vertices
  pub record Marked (l : List Bool) (v : ℕ) : Type 0 where
    pub size : length l ≡ 10
    pub marks : (s : ℕ) → s < 10 → get_or l s false ≡ has v s

  pub marked-none : Marked (replicate 10 false) 0
  unfolding any
  marked-none = record { size = length-replicate {A = Bool} 10 false; marks = λ s h. get_or-replicate 10 s false false h }

  -- one vertex more, and whether it has the kind s
  has_more : (v s : ℕ) (b : Bool) → eqb (get_or k v 0) s ≡ b → has (v + 1) s ≡ has v s || b
  has_more v s b e = any-more (λ u. eqb (get_or k u 0) s) v ∙ rw e refl

  pub marked_more : (l : List Bool) (v s : ℕ) → s < 10 → s ≡ get_or k v 0 → Marked l v → Marked (set l s true) (v + 1)
  marked_more l v s h q A = record { size = length-set l s true ∙ A.size; marks = λ t g. go t g (ℕ_discrete t s) }
    where
      go : (t : ℕ) → t < 10 → Dec (t ≡ s) → get_or (set l s true) t false ≡ has (v + 1) t
      go t g (yes z) =
          rw z (get_or-set_same l s true false (omega (arith, A.size)) ∙ sym (has_more v s true (eq-eqb (get_or k v 0) s (sym q)) ∙ or-true (has v s)))
      go t g (no z) =
          get_or-set_other l s t true false z ∙ A.marks t g
          ∙ sym (has_more v t false (ne_eqb (get_or k v 0) t (λ y. z (sym (q ∙ y)))) ∙ or-false (has v t))

pub most-more : (f : ℕ → ℕ) (s : ℕ) {m x y : ℕ} → y ≡ max m x → m ≡ largest f s → x ≡ f s → y ≡ largest f (s + 1)
most-more f s e p q = e ∙ ap₂ max p q ∙ sym (largest-more f s)
