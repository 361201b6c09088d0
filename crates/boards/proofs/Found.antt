-- What a search found, as the point that it makes.
use mathlib.Core.Path.{◌≡◌, refl, sym, ap, ◌∙◌}
use mathlib.Core.Bool.{Bool, true, false}
use Prim.Native.Nat.{ℕ}
use lib.Dec.{ltb}
use Rattle.std.specs.Prelude.{Option, Some, None}
use Rattle.model.specs.Places.{pick, first}
use Rattle.model.proofs.Bools.{clash}
use Rattle.boards.specs.Points.{below}

abbrev some : Option ℕ → Bool
some (Some i) = true
some None = false

abbrev value : Option ℕ → ℕ
value (Some i) = i
value None = 0

module _ (p : ℕ → Bool) (n : ℕ) {r : Option ℕ} (e : r ≡ below (first p n) n) where
  pub found-some : {X : Type 0} (point : ℕ → X) (rest : X) {i : ℕ} → r ≡ Some i → point i ≡ pick (ltb (first p n) n) (point (first p n)) rest
  found-some point rest {i} s = go (ltb (first p n) n) (first p n) (sym e ∙ s)
    where
      go : (b : Bool) (m : ℕ) → pick b (Some m) None ≡ Some i → point i ≡ pick b (point m) rest
      go true m q = ap point (sym (ap value q))
      go false m q = absurd (clash (ap some q) refl)

  pub found-none : r ≡ None → ltb (first p n) n ≡ false
  found-none s = go (ltb (first p n) n) (first p n) (sym e ∙ s)
    where
      go : (b : Bool) (m : ℕ) → pick b (Some m) None ≡ None → b ≡ false
      go true m q = absurd (clash refl (ap some q))
      go false m q = refl

  pub found-one : {i : ℕ} → r ≡ Some i → ltb (first p n) n ≡ true
  found-one {i} s = go (ltb (first p n) n) (first p n) (sym e ∙ s)
    where
      go : (b : Bool) (m : ℕ) → pick b (Some m) None ≡ Some i → b ≡ true
      go true m q = refl
      go false m q = absurd (clash (ap some q) refl)
