-- The first place of a scan that goes on from a to b.
use mathlib.Core.Path.{◌≡◌, refl, sym, ap, ◌∙◌}
use mathlib.Core.Logic.{⊎_elim}
use mathlib.Core.Bool.{Bool, true, false}
use Prim.Native.Nat.{ℕ, ◌≤◌, ◌<◌}
use native.Mathlib.Omega.{arith}
use Rattle.std.specs.Prelude.{Option, Some, None}
use Rattle.std.specs.Option.{option_or}
use Rattle.std.specs.Bool.{then_some}
use Rattle.model.specs.Places.{first}
use Rattle.model.proofs.Bools.{le-or-lt}
use Rattle.model.proofs.Places.{first-at, first-none, first_below, first-here}
use Rattle.frames.specs.Frames.{FirstIn}

pub first_in-none : (p : ℕ → Bool) → FirstIn p 0 None
unfolding first
first_in-none p = refl

-- what was found below a; or a, where p holds from a up to b everywhere; or nothing, where it holds nowhere there
pub first_on : (p : ℕ → Bool) (a b : ℕ) (here : Bool) → a ≤ b → ((i : ℕ) → a ≤ i → i < b → p i ≡ here) → (here ≡ true → a < b)
    → (o : Option ℕ) → FirstIn p a o → FirstIn p b (option_or o (then_some here a))
first_on p a b here h same some (Some i) f =
    let e : first p a ≡ i = f.0 in
    (first-at p b i (omega (arith, f.1)) (λ j m. first_below p a j (omega (arith, e))) (rw e at (first-here p a (omega (arith, e, f.1)))), omega (arith, f.1))
first_on p a b true h same some None f =
    (first-at p b a (some refl) (λ j m. first_below p a j (omega (arith, f))) (same a (omega arith) (some refl)), some refl)
first_on p a b false h same some None f =
    first-none p b (λ j m. ⊎_elim (λ (x : a ≤ j). same j x m) (λ (x : j < a). first_below p a j (omega (arith, f))) (le-or-lt a j))

pub first_in_unique : (p : ℕ → Bool) (m : ℕ) (o o' : Option ℕ) → FirstIn p m o → FirstIn p m o' → o ≡ o'
first_in_unique p m (Some i) (Some j) a b = ap (λ (x : ℕ). Some x) (sym a.0 ∙ b.0)
first_in_unique p m (Some i) None a b = absurd (omega (arith, a.0, a.1, b))
first_in_unique p m None (Some j) a b = absurd (omega (arith, b.0, b.1, a))
first_in_unique p m None None a b = refl
