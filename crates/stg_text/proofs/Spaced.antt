-- Lines of numbers, as the writer lays them out: their fields are the numbers.
use mathlib.Core.Path.{◌≡◌, refl, ap, ◌∙◌}
use mathlib.Core.Bool.{true, not}
use mathlib.Core.List.{List, [], ◌∷◌, ◌++◌, map, append_assoc}
use Prim.Native.Nat.{ℕ, zero, suc, ◌<◌}
use native.Mathlib.Omega.{arith}
use native.Mathlib.Decide.{ℕ_discrete}
use lib.ListN.{length, get_or, length-append, get_or-append}
use lib.Seq.{get_or_at}
use Rattle.model.proofs.Bools.{both}
use Rattle.writer.specs.Write.{joined}
use Rattle.stg_text.specs.Fields.{pieces, all, nonempty, feed, blank, fields, numeral, value, numerals, numbers}
use Rattle.stg_text.specs.Canonical.{decimal, spaced}
use Rattle.stg_text.proofs.Pieces.{free, all_append, pieces-cut, pieces-last}
use Rattle.stg_text.proofs.Digits.{Small, decimal-value, decimal-numeral, decimal-free-blank, decimal-free-feed, decimal-some}

-- ---- one line

-- each number of the list has ten digits at most
pub data AllSmall : List ℕ → Type 0 where
  none : AllSmall []
  more : {x : ℕ} {xs : List ℕ} → Small x → AllSmall xs → AllSmall (x ∷ xs)

pub spaced-free : (xs : List ℕ) → free feed (spaced xs) ≡ true
unfolding spaced feed
spaced-free [] = refl
spaced-free (x ∷ []) = decimal-free-feed x
spaced-free (x ∷ y ∷ xs) = all_append (λ c. not (feed c)) (decimal x) (32 ∷ spaced (y ∷ xs)) (decimal-free-feed x) (spaced-free (y ∷ xs))

-- a piece that is not empty is a field
nonempty-more : (w : List ℕ) (ws : List (List ℕ)) → 0 < length w → nonempty (w ∷ ws) ≡ w ∷ nonempty ws
nonempty-more [] ws l = absurd (omega arith)
nonempty-more (c ∷ w) ws l = refl

spaced-pieces : (xs : List ℕ) → nonempty (pieces blank (spaced xs)) ≡ map decimal xs
unfolding spaced pieces blank
spaced-pieces [] = refl
spaced-pieces (x ∷ []) = rw (pieces-last blank (decimal x) (decimal-free-blank x)) (nonempty-more (decimal x) [] (decimal-some x))
spaced-pieces (x ∷ y ∷ xs) =
    rw (pieces-cut blank (decimal x) 32 (spaced (y ∷ xs)) (decimal-free-blank x) refl)
    (nonempty-more (decimal x) (pieces blank (spaced (y ∷ xs))) (decimal-some x) ∙ ap (λ (r : List (List ℕ)). decimal x ∷ r) (spaced-pieces (y ∷ xs)))

pub spaced-fields : (xs : List ℕ) → fields (spaced xs) ≡ map decimal xs
unfolding fields
spaced-fields xs = spaced-pieces xs

decimals : (xs : List ℕ) → AllSmall xs → (all numeral (map decimal xs) ≡ true) × (map value (map decimal xs) ≡ xs)
decimals [] none = (refl, refl)
decimals (x ∷ xs) (more l h) =
    let ih = decimals xs h in
    (both (numeral (decimal x)) (all numeral (map decimal xs)) (decimal-numeral x l) ih.0, rw (decimal-value x l, ih.1) refl)

pub spaced-numerals : (xs : List ℕ) → AllSmall xs → numerals (spaced xs) ≡ true
unfolding numerals
spaced-numerals xs h = rw (spaced-fields xs) (decimals xs h).0

pub spaced-numbers : (xs : List ℕ) → AllSmall xs → numbers (spaced xs) ≡ xs
unfolding numbers
spaced-numbers xs h = rw (spaced-fields xs) (decimals xs h).1

-- ---- many lines

-- the lists f 0 .. f (n - 1)
pub rows : (ℕ → List ℕ) → ℕ → List (List ℕ)
rows f zero = []
rows f (suc n) = rows f n ++ (f n ∷ [])

pub rows-length : (f : ℕ → List ℕ) (n : ℕ) → length (rows f n) ≡ n
unfolding rows
rows-length f zero = refl
rows-length f (suc n) = length-append (rows f n) (f n ∷ []) ∙ rw (rows-length f n) (omega arith)

pub rows_at : (f : ℕ → List ℕ) (n i : ℕ) → i < n → get_or (rows f n) i [] ≡ f i
unfolding rows
rows_at f zero i l = absurd (omega arith)
rows_at f (suc n) i l = go (ℕ_discrete i n) (rows_at f n i)
  where
    go : Dec (i ≡ n) → (i < n → get_or (rows f n) i [] ≡ f i) → get_or (rows f n ++ (f n ∷ [])) i [] ≡ f i
    go (yes e) ih = rw e (get_or_at (rows f n) (f n) [] [] n (rows-length f n))
    go (no x) ih =
        let b : i < n = omega arith in
        get_or-append (rows f n) (f n ∷ []) [] i (rw (rows-length f n) b) ∙ ih b

-- lines that no line feed stands in, each ended by one
pub joined-pieces : (f h : ℕ → List ℕ) → ((v : ℕ) → h v ≡ f v ++ (10 ∷ [])) → ((v : ℕ) → free feed (f v) ≡ true) → (n : ℕ) (b : List ℕ)
    → pieces feed (joined h n ++ b) ≡ rows f n ++ pieces feed b
unfolding joined rows feed
joined-pieces f h e c zero b = refl
joined-pieces f h e c (suc n) b =
    rw (e n, append_assoc (joined h n) (f n ++ (10 ∷ [])) b, append_assoc (f n) (10 ∷ []) b)
    (joined-pieces f h e c n (f n ++ (10 ∷ b)) ∙ rw (pieces-cut feed (f n) 10 b (c n) refl, append_assoc (rows f n) (f n ∷ []) (pieces feed b)) refl)
