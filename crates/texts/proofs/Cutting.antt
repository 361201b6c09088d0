-- Searches, parts and comparisons, from what the code tests.
use mathlib.Core.Path.{◌≡◌, refl, ◌∙◌}
use mathlib.Core.Bool.{Bool, true, false, ◌&&◌}
use mathlib.Core.Logic.{◌⊎◌, inl, inr}
use mathlib.Core.List.{List, [], ◌∷◌}
use Prim.Native.Nat.{ℕ, zero, suc, ◌+◌, ◌-◌, ◌≤◌, ◌<◌}
use native.Mathlib.Nat.{le_of_suc-le-suc, not-suc-le-zero}
use native.Mathlib.Omega.{arith}
use native.Mathlib.Decide.{ℕ_discrete}
use lib.ListN.{length, get_or, take, drop}
use lib.Seq.{ext_get_or}
use lib.Dec.{eqb, leb}
use borrow.Author.Tests.{le-leb, lt-leb, eq-eqb}
use denote.Bor.{Bor}
use Rattle.std.specs.Prelude.{Option, Some, None, MatchOption, unwrap_or}
use Rattle.std.specs.List.{slice_range}
use Rattle.std.specs.Str.{bytes_eq}
use Rattle.std.proofs.lemmas.Slice.Eq.{bytes_eq-Decides}
use Rattle.std.proofs.lemmas.Bool.{eqb-true}
use Rattle.model.specs.Places.{pick, first, every}
use Rattle.model.proofs.Places.{first-at, first-none, every-at, every_intro}
use Rattle.model.proofs.Bools.{both, left-of, right_of, same_test}
use Rattle.texts.specs.Text.{part_of, same}

-- what stands past the end does not matter where the text has the place
pub within : (t : List ℕ) (i d e : ℕ) → i < length t → get_or t i d ≡ get_or t i e
within [] i d e l = absurd (not-suc-le-zero l)
within (x ∷ t) zero d e l = refl
within (x ∷ t) (suc i) d e l = within t i d e (le_of_suc-le-suc l)

-- what holds at no place from `at` up to i, nor at i, holds at none up to i + 1
abbrev pub Passed : (ℕ → Bool) → ℕ → ℕ → Type 0
Passed p at i = (k : ℕ) → at + k < i → p (at + k) ≡ false

pub passed_more : (p : ℕ → Bool) (at i : ℕ) → Passed p at i → p i ≡ false → Passed p at (i + 1)
passed_more p at i f e k l = go (ℕ_discrete (at + k) i)
  where
    go : Dec (at + k ≡ i) → p (at + k) ≡ false
    go (yes q) = rw q e
    go (no q) = f k (omega arith)

-- a search ends where it first stops, or at the end
pub found : (p : ℕ → Bool) (n at i : ℕ) → at ≤ i → i < n → Passed p at i → p i ≡ true → i ≡ at + first (λ k. p (at + k)) (n - at)
found p n at i l m f e =
    let q : at + (i - at) ≡ i = omega arith in
    omega (arith, first-at (λ k. p (at + k)) (n - at) (i - at) (omega arith) (λ k h. f k (omega arith)) (rw q e))

pub not_found : (p : ℕ → Bool) (n at i : ℕ) → i ≡ at + (n - at) → Passed p at i → i ≡ at + first (λ k. p (at + k)) (n - at)
not_found p n at i l f = omega (arith, first-none (λ k. p (at + k)) (n - at) (λ k h. f k (omega arith)))

-- the bytes from place i up to place j, as `get` finds them
pub part-got : (t : List ℕ) (i j : ℕ) (o : Option (Bor (List ℕ))) (d r : Bor (List ℕ)) → d.now ≡ []
    → MatchOption o ((j < i) ⊎ (length t < j)) (λ x. (i ≤ j) × (j ≤ length t) × (x.now ≡ slice_range t i j) × (length x.now + i ≡ j))
    → r ≡ unwrap_or o d → r.now ≡ part_of t i j
unfolding part_of
part-got t i j (Some x) d r e h q = rw (q, le-leb i j h.0, le-leb j (length t) h.1) h.2
part-got t i j None d r e (inl l) q = rw (q, lt-leb i j l) e
part-got t i j None d r e (inr l) q = rw (q, lt-leb j (length t) l) (e ∙ go (leb i j))
  where
    go : (b : Bool) → [] ≡ pick (b && false) (take (j - i) (drop i t)) []
    go true = refl
    go false = refl

-- what `==` says of two words
pub same-is : (a b : List ℕ) → bytes_eq a b ≡ same a b
unfolding same
same-is a b = same_test _ _ to from
  where
    to : bytes_eq a b ≡ true → eqb (length a) (length b) && every (λ k. eqb (get_or a k 0) (get_or b k 0)) (length a) ≡ true
    to e = let q : a ≡ b = (bytes_eq-Decides a b).0 e in rw q (both _ _ (eq-eqb (length b) (length b) refl) (every_intro _ (length b) (λ k l. eq-eqb _ _ refl)))

    from : eqb (length a) (length b) && every (λ k. eqb (get_or a k 0) (get_or b k 0)) (length a) ≡ true → bytes_eq a b ≡ true
    from e =
        (bytes_eq-Decides a b).1 (ext_get_or 0 a b (eqb-true _ _ (left-of _ _ e))
        (λ i l. eqb-true _ _ (every-at (λ k. eqb (get_or a k 0) (get_or b k 0)) (length a) (right_of (eqb (length a) (length b)) _ e) i l)))
