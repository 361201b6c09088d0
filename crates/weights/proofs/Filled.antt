-- A padded table with one place more filled, and two that hold the same.
use mathlib.Core.Path.{◌≡◌, refl, ap, ap₂, ◌∙◌}
use mathlib.Core.List.{List, [], ◌∷◌, ◌++◌}
use Prim.Native.Nat.{ℕ, zero, suc, ◌+◌, ◌-◌, ◌<◌}
use native.Mathlib.Omega.{arith}
use lib.ListN.{set, replicate}
use Rattle.model.specs.Places.{table, padded}
use Rattle.model.proofs.Tables.{padded-more}

pub filled : (l : ℕ) (f : ℕ → ℕ) (n x : ℕ) (a : List ℕ) → n < l → a ≡ padded l f n → x ≡ f n → set a n x ≡ padded l f (n + 1)
filled l f n x a h p q = ap₂ (λ (b : List ℕ) (y : ℕ). set b n y) p q ∙ padded-more l f n h

-- two tables that agree on the places that are filled
table_same : (f g : ℕ → ℕ) (n : ℕ) → ((i : ℕ) → i < n → f i ≡ g i) → table f n ≡ table g n
unfolding table
table_same f g zero h = refl
table_same f g (suc n) h = ap₂ (λ (a : List ℕ) (x : ℕ). a ++ (x ∷ [])) (table_same f g n (λ i l. h i (omega arith))) (h n (omega arith))

pub padded-same : (l : ℕ) (f g : ℕ → ℕ) (n : ℕ) → ((i : ℕ) → i < n → f i ≡ g i) → padded l f n ≡ padded l g n
unfolding padded
padded-same l f g n h = ap (λ (a : List ℕ). a ++ replicate (l - n) 0) (table_same f g n h)
