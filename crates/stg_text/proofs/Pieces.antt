-- Lists cut into pieces: a piece ends at the first byte that cuts.
use mathlib.Core.Path.{◌≡◌, refl}
use mathlib.Core.Bool.{Bool, true, false, not}
use mathlib.Core.List.{List, [], ◌∷◌, ◌++◌}
use Prim.Native.Nat.{ℕ}
use Rattle.model.proofs.Bools.{left-of, right_of, both, not-is-true}
use Rattle.stg_text.specs.Fields.{pieces, all}

-- no byte of the list cuts
abbrev pub free : (ℕ → Bool) → List ℕ → Bool
free p l = all (λ c. not (p c)) l

pub all_append {ℓ} : {A : Type ℓ} (p : A → Bool) (a b : List A) → all p a ≡ true → all p b ≡ true → all p (a ++ b) ≡ true
all_append p [] b f g = g
all_append p (x ∷ a) b f g = both (p x) (all p (a ++ b)) (left-of (p x) (all p a) f) (all_append p a b (right_of (p x) (all p a) f) g)

pub all-mono {ℓ} : {A : Type ℓ} (p q : A → Bool) (a : List A) → ((x : A) → p x ≡ true → q x ≡ true) → all p a ≡ true → all q a ≡ true
all-mono p q [] h f = refl
all-mono p q (x ∷ a) h f = both (q x) (all q a) (h x (left-of (p x) (all p a) f)) (all-mono p q a h (right_of (p x) (all p a) f))

pub pieces-cut : (p : ℕ → Bool) (a : List ℕ) (c : ℕ) (b : List ℕ) → free p a ≡ true → p c ≡ true → pieces p (a ++ (c ∷ b)) ≡ a ∷ pieces p b
unfolding pieces
pieces-cut p [] c b f h = rw h refl
pieces-cut p (x ∷ a) c b f h =
    let n : p x ≡ false = not-is-true (p x) (left-of (not (p x)) (free p a) f) in
    rw (n, pieces-cut p a c b (right_of (not (p x)) (free p a) f) h) refl

pub pieces-last : (p : ℕ → Bool) (a : List ℕ) → free p a ≡ true → pieces p a ≡ a ∷ []
unfolding pieces
pieces-last p [] f = refl
pieces-last p (x ∷ a) f =
    let n : p x ≡ false = not-is-true (p x) (left-of (not (p x)) (free p a) f) in
    rw (n, pieces-last p a (right_of (not (p x)) (free p a) f)) refl
