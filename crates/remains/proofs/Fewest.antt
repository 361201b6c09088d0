-- The least of a set of places and a number, one place after another.
use mathlib.Core.Path.{◌≡◌, refl, sym, ap, ◌∙◌}
use mathlib.Core.Logic.{◌⊎◌, inl, inr}
use mathlib.Core.Bool.{Bool, true, false, not, ◌&&◌, ◌||◌}
use Prim.Native.Nat.{ℕ, ◌≤◌, ◌<◌, min}
use native.Mathlib.Omega.{arith}
use lib.Dec.{eqb}
use borrow.Author.Tests.{eqb-true, eq-eqb}
use Rattle.model.proofs.Bools.{clash, le-or-lt, or_cases, or_left, or_right}
use Rattle.vset.proofs.Taking.{still_in, taken_more, none-taken, all-taken}
use Rattle.remains.specs.Remains.{LeastFrom}

pub least-none : (f : ℕ → ℕ) (p : ℕ → Bool) (x : ℕ) → ((v : ℕ) → p v ≡ false) → LeastFrom f p x x
least-none f p x none = record { top = omega arith; low = λ v h. absurd (clash h (none v)); is = inl refl }

-- one place more
pub least_more : (f : ℕ → ℕ) (p q : ℕ → Bool) (t x r : ℕ) → ((v : ℕ) → q v ≡ p v || eqb v t) → LeastFrom f p x r → LeastFrom f q x (min r (f t))
least_more f p q t x r is m = record { top = omega (arith, m.top); low = λ v h. low v (or_cases (p v) (eqb v t) (sym (is v) ∙ h)); is = go (le-or-lt r (f t)) m.is }
  where
    low : (v : ℕ) → (p v ≡ true) ⊎ (eqb v t ≡ true) → min r (f t) ≤ f v
    low v (inl k) = omega (arith, m.low v k)
    low v (inr k) = omega (arith, ap f (eqb-true v t k))

    go : (r ≤ f t) ⊎ (f t < r) → (r ≡ x) ⊎ ((v : ℕ) × (p v ≡ true) × (f v ≡ r)) → (min r (f t) ≡ x) ⊎ ((v : ℕ) × (q v ≡ true) × (f v ≡ min r (f t)))
    go (inl l) (inl e) = inl (omega arith)
    go (inl l) (inr w) = inr (w.0, is w.0 ∙ or_left (p w.0) (eqb w.0 t) w.1, omega (arith, w.2))
    go (inr l) w = inr (t, is t ∙ or_right (p t) (eqb t t) (eq-eqb t t refl), omega arith)

-- the same places by another test, and the same values there
pub least_ext : (f g : ℕ → ℕ) (p q : ℕ → Bool) (x r : ℕ) → ((v : ℕ) → p v ≡ q v) → ((v : ℕ) → p v ≡ true → f v ≡ g v) → LeastFrom f p x r → LeastFrom g q x r
least_ext f g p q x r e s m = record { top = m.top; low = λ v h. let k = e v ∙ h in omega (arith, m.low v k, s v k); is = go m.is }
  where
    go : (r ≡ x) ⊎ ((v : ℕ) × (p v ≡ true) × (f v ≡ r)) → (r ≡ x) ⊎ ((v : ℕ) × (q v ≡ true) × (g v ≡ r))
    go (inl k) = inl k
    go (inr w) = inr (w.0, sym (e w.0) ∙ w.1, sym (s w.0 w.1) ∙ w.2)

-- there is one
pub least-same : (f : ℕ → ℕ) (p : ℕ → Bool) (x r s : ℕ) → LeastFrom f p x r → LeastFrom f p x s → r ≡ s
least-same f p x r s m n = omega (arith, under r s m n n.is, under s r n m m.is)
  where
    under : (r s : ℕ) → LeastFrom f p x r → LeastFrom f p x s → (s ≡ x) ⊎ ((v : ℕ) × (p v ≡ true) × (f v ≡ s)) → r ≤ s
    under r s m n (inl e) = omega (arith, m.top)
    under r s m n (inr w) = omega (arith, m.low w.0 w.1, w.2)

-- of those in `on` that are no longer in the rest
pub record Least (f : ℕ → ℕ) (on rest : ℕ → Bool) (x best : ℕ) : Type 0 where
  pub inside : (u : ℕ) → rest u ≡ true → on u ≡ true
  pub so_far : LeastFrom f (λ u. on u && not (rest u)) x best

module _ (f : ℕ → ℕ) (on : ℕ → Bool) (x : ℕ) where
  pub least_first : Least f on on x x
  least_first = record { inside = λ u h. h; so_far = least-none f (λ u. on u && not (on u)) x (none-taken on) }

  pub least-next : (rest : ℕ → Bool) (best t : ℕ) → Least f on rest x best → rest t ≡ true → (next : ℕ → Bool) → ((k : ℕ) → next k ≡ rest k && not (eqb k t))
      → Least f on next x (min best (f t))
  least-next rest best t m here next is-next = record {
    inside = λ u h. m.inside u (still_in rest next t is-next here u h);
    so_far = least_more f (λ u. on u && not (rest u)) (λ u. on u && not (next u)) t x best (taken_more rest next t is-next here on (m.inside t here)) m.so_far;
  }

  pub least-all : (rest : ℕ → Bool) (best : ℕ) → Least f on rest x best → ((u : ℕ) → rest u ≡ false) → LeastFrom f on x best
  least-all rest best m none = least_ext f f (λ u. on u && not (rest u)) on x best (all-taken on rest none) (λ v h. refl) m.so_far
