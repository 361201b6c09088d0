-- Along the edges of one vertex, one by one.
use mathlib.Core.Path.{◌≡◌, refl, sym, ap, ◌∙◌}
use mathlib.Core.Bool.{Bool, true, false, ◌||◌, or-true, or-false}
use mathlib.Core.List.{List}
use Prim.Native.Nat.{ℕ, ◌+◌, ◌<◌, max}
use native.Mathlib.Omega.{arith}
use native.Mathlib.Decide.{ℕ_discrete}
use lib.Dec.{eqb}
use lib.ListN.{get_or, length, set, length-set}
use lib.Seq.{get_or-set_same, get_or-set_other}
use borrow.Author.Tests.{eq-eqb, ne_eqb}
use Rattle.model.specs.Places.{pick, any}
use Rattle.model.proofs.Places.{any-more}
use Rattle.model.proofs.Sums.{largest-more}
use Rattle.summary.specs.Row.{nth, goes_to_next, most_over, Told}

module _ (e st : List ℕ) (u : ℕ) where
  pub goes-here : (k : ℕ) → goes_to_next e st u (k + 1) (nth e st u k) ≡ true
  goes-here k =
      let x = nth e st u k in
      any-more (λ j. eqb (nth e st u j) x) k ∙ ap (λ (b : Bool). goes_to_next e st u k x || b) (eq-eqb x x refl) ∙ or-true (goes_to_next e st u k x)

  pub goes_other : (k x : ℕ) → (x ≡ nth e st u k → ⊥) → goes_to_next e st u (k + 1) x ≡ goes_to_next e st u k x
  goes_other k x d =
      any-more (λ j. eqb (nth e st u j) x) k
      ∙ ap (λ (b : Bool). goes_to_next e st u k x || b) (ne_eqb (nth e st u k) x (λ q. d (sym q)))
      ∙ or-false (goes_to_next e st u k x)

  -- the largest of a and of what the list has for the vertices that the edges go to
  pub most-more : (s : List ℕ) (a k x m y : ℕ) → x ≡ nth e st u k → y ≡ max m (get_or s x 0) → m ≡ max a (most_over e st s u k)
      → y ≡ max a (most_over e st s u (k + 1))
  most-more s a k x m y is new old = omega (arith, ap (λ (v : ℕ). get_or s v 0) is, largest-more (λ j. get_or s (nth e st u j) 0) k)

  module _ (b : ℕ → ℕ) (s : List ℕ) where
    pub told_none : length s ≡ 128 → Told e st b u 0 s s
    unfolding any
    told_none long = record { size = long; at = λ x. refl }

    -- what was raised to this much is not raised again
    once : (c : Bool) (a y : ℕ) → max (pick c (max a y) a) y ≡ max a y
    once true a y = omega arith
    once false a y = refl

    pub told_more : (s' : List ℕ) (k x y : ℕ) → x ≡ nth e st u k → x < 128 → y ≡ max (get_or s' x 0) (b x) → Told e st b u k s s'
        → Told e st b u (k + 1) s (set s' x y)
    told_more s' k x y is few new T = record { size = length-set s' x y ∙ T.size; at = λ v. go v (ℕ_discrete v x) }
      where
        here : goes_to_next e st u (k + 1) x ≡ true
        here = rw is (goes-here k)

        go : (v : ℕ) → Dec (v ≡ x) → get_or (set s' x y) v 0 ≡ pick (goes_to_next e st u (k + 1) v) (max (get_or s v 0) (b v)) (get_or s v 0)
        go v (yes q) =
            rw (q, here)
            (get_or-set_same s' x y 0 (rw T.size few)
            ∙ (new ∙ (ap (λ (a : ℕ). max a (b x)) (T.at x) ∙ once (goes_to_next e st u k x) (get_or s x 0) (b x))))
        go v (no q) = rw (goes_other k v (λ z. q (z ∙ sym is))) (get_or-set_other s' x v y 0 q ∙ T.at v)
