-- A vertex that has no ticks left any more is finished, or stands behind another: in either case the numbers are still right, while the
-- finished one has not told its successors.
use mathlib.Core.Path.{◌≡◌, refl, sym, ap, ap₂, ◌∙◌}
use mathlib.Core.Bool.{Bool, true, false, not, ◌&&◌, ◌||◌}
use mathlib.Core.List.{List}
use Prim.Native.Nat.{ℕ}
use lib.Dec.{eqb}
use borrow.Author.Tests.{eqb-true}
use Rattle.model.proofs.Bools.{clash, left-of, right_of, not-is-true}
use Rattle.vset.specs.declared.Vset.{Vset}
use Rattle.vset.specs.Members.{is_in}
use Rattle.waiting.specs.Waiting.{Settled, Unsettled}
use Rattle.waiting.proofs.Numbers.{entering_ext}

module _ (l : List ℕ) (m : ℕ) (w : List ℕ) (busy : ℕ → Bool) (behind : Vset) (S : Settled l m w busy behind) (v : ℕ) (was : busy v ≡ true)
    (rest done : ℕ → Bool) (is-rest : (u : ℕ) → rest u ≡ busy u && not (eqb u v)) (is-done : (u : ℕ) → done u ≡ eqb u v && not (is_in behind u)) where
  moved-over : (a b e : Bool) → (e ≡ true → a ≡ true) → a || b ≡ ((a && not e) || b) || (e && not b)
  moved-over true true true f = refl
  moved-over true true false f = refl
  moved-over true false true f = refl
  moved-over true false false f = refl
  moved-over false true true f = refl
  moved-over false true false f = refl
  moved-over false false true f = absurd (clash (f refl) refl)
  moved-over false false false f = refl

  same : (u : ℕ) → busy u || is_in behind u ≡ (rest u || is_in behind u) || done u
  same u =
      moved-over (busy u) (is_in behind u) (eqb u v) (λ e. rw (eqb-true u v e) was)
      ∙ sym (ap₂ (λ (x y : Bool). (x || is_in behind u) || y) (is-rest u) (is-done u))

  pub unsettled : Unsettled l m w rest (is_in behind) done
  unsettled = record {
    long = S.long;
    counts = λ u h. S.counts u h ∙ entering_ext l (λ u. busy u || is_in behind u) (λ u. (rest u || is_in behind u) || done u) m u same;
    stand = S.stand.are;
    apart = λ u t. apart u (sym (is-done u) ∙ t);
  }
    where
      none : (a b e : Bool) → e ≡ true → b ≡ false → (a && not e) || b ≡ false
      none true b e p q = rw (p, q) refl
      none false b e p q = rw q refl

      apart : (u : ℕ) → eqb u v && not (is_in behind u) ≡ true → rest u || is_in behind u ≡ false
      apart u t =
          ap (λ (x : Bool). x || is_in behind u) (is-rest u)
          ∙ none (busy u) (is_in behind u) (eqb u v) (left-of (eqb u v) _ t) (not-is-true (is_in behind u) (right_of (eqb u v) _ t))
