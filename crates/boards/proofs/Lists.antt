-- What a list's own test tells, as a test of its places.
use mathlib.Core.Path.{◌≡◌, refl, ap}
use mathlib.Core.Bool.{Bool, true}
use mathlib.Core.List.{List, [], ◌∷◌}
use mathlib.Core.Logic.{⊎_elim}
use Prim.Native.Nat.{ℕ, zero, suc, ◌<◌, ◌≤◌}
use native.Mathlib.Omega.{arith}
use lib.Dec.{eqb}
use lib.ListN.{get_or, length, take}
use Rattle.std.proofs.lemmas.List.{get_or-take, length-take-le}
use Rattle.std.specs.List.{list_any}
use Rattle.model.specs.Places.{any}
use Rattle.model.proofs.Bools.{clash, or_left, or_right, or_cases, same_test}
use Rattle.model.proofs.Places.{any_intro, any_elim, any_ext}

there : (p : ℕ → Bool) (l : List ℕ) → list_any p l ≡ true → (i : ℕ) × (i < length l) × (p (get_or l i 0) ≡ true)
there p [] e = absurd (clash e refl)
there p (x ∷ l) e =
    ⊎_elim (λ a. (0, omega arith, a)) (λ b. let r = there p l b in (suc r.0, omega (arith, r.1), r.2)) (or_cases (p x) (list_any p l) e)

back : (p : ℕ → Bool) (l : List ℕ) (i : ℕ) → i < length l → p (get_or l i 0) ≡ true → list_any p l ≡ true
back p [] i h t = absurd (omega arith)
back p (x ∷ l) zero h t = or_left (p x) (list_any p l) t
back p (x ∷ l) (suc i) h t = or_right (p x) (list_any p l) (back p l i (omega arith) t)

pub any_listed : (p : ℕ → Bool) (l : List ℕ) → list_any p l ≡ any (λ j. p (get_or l j 0)) (length l)
any_listed p l =
    same_test (list_any p l) (any (λ j. p (get_or l j 0)) (length l))
    (λ t. let r = there p l t in any_intro (λ j. p (get_or l j 0)) (length l) r.0 r.1 r.2)
    (λ t. let r = any_elim (λ j. p (get_or l j 0)) (length l) t in back p l r.0 r.1 r.2)

-- the first places of a list, as a list
pub any_taken : (l : List ℕ) (n x : ℕ) → n ≤ length l → any (λ j. eqb (get_or (take n l) j 0) x) (length (take n l)) ≡ any (λ j. eqb (get_or l j 0) x) n
any_taken l n x h =
    let e : length (take n l) ≡ n = length-take-le n l h in
    rw e (any_ext (λ j. eqb (get_or (take n l) j 0) x) (λ j. eqb (get_or l j 0) x) n (λ i b. ap (λ (y : ℕ). eqb y x) (get_or-take n l i 0 b)))
