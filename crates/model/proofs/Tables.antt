-- Laws of `table` and `padded`, of tables with zeros past their first places, and of a list that is laid over the first places of another.
use mathlib.Core.Path.{◌≡◌, refl, sym, ap, ◌∙◌}
use mathlib.Core.List.{List, [], ◌∷◌, ◌++◌, append_assoc}
use mathlib.Core.Logic.{◌⊎◌, inl, inr}
use Prim.Native.Nat.{ℕ, zero, suc, ◌+◌, ◌-◌, ◌≤◌, ◌<◌}
use native.Mathlib.Numerals.{add-one}
use native.Mathlib.Omega.{arith}
use native.Mathlib.Decide.{ℕ_discrete}
use lib.ListN.{length, get_or, take, drop, set, replicate, length-append, length-replicate, get_or-append}
use lib.Seq.{ext_get_or, set_at, take_at, get_or_at, get_or-append-add, drop-cons}
use Rattle.model.specs.Places.{table, padded}
use Rattle.model.proofs.Bools.{le-or-lt}

pub table-length : (f : ℕ → ℕ) (n : ℕ) → length (table f n) ≡ n
unfolding table
table-length f zero = refl
table-length f (suc n) = length-append (table f n) (f n ∷ []) ∙ rw (table-length f n) (omega arith)

pub padded-none : (l : ℕ) (f : ℕ → ℕ) → replicate l 0 ≡ padded l f 0
unfolding padded table
padded-none l f = let e : l - 0 ≡ l = omega arith in rw e refl

-- one place more is filled
pub padded-more : (l : ℕ) (f : ℕ → ℕ) (n : ℕ) → n < l → set (padded l f n) n (f n) ≡ padded l f (n + 1)
unfolding padded table
padded-more l f n h =
    let e : l - n ≡ suc (l - suc n) = omega arith in
    rw (add-one n, e) (set_at (table f n) 0 (replicate (l - suc n) 0) (f n) n (table-length f n) ∙ sym (append_assoc (table f n) (f n ∷ []) (replicate (l - suc n) 0)))

pub padded-length : (l : ℕ) (f : ℕ → ℕ) (n : ℕ) → n ≤ l → length (padded l f n) ≡ l
unfolding padded
padded-length l f n h =
    length-append (table f n) (replicate (l - n) 0) ∙ rw (table-length f n, length-replicate) (omega arith)

pub padded-take : (l : ℕ) (f : ℕ → ℕ) (n : ℕ) → take n (padded l f n) ≡ table f n
unfolding padded
padded-take l f n = take_at (table f n) (replicate (l - n) 0) n (table-length f n)

pub table_at : (f : ℕ → ℕ) (n i : ℕ) → i < n → get_or (table f n) i 0 ≡ f i
unfolding table
table_at f zero i l = absurd (omega arith)
table_at f (suc n) i l = go (ℕ_discrete i n) (table_at f n i)
  where
    go : Dec (i ≡ n) → (i < n → get_or (table f n) i 0 ≡ f i) → get_or (table f n ++ (f n ∷ [])) i 0 ≡ f i
    go (yes e) ih = rw e (get_or_at (table f n) (f n) [] 0 n (table-length f n))
    go (no x) ih =
        let b : i < n = omega arith in
        get_or-append (table f n) (f n ∷ []) 0 i (rw (table-length f n) b) ∙ ih b

-- what a padded table has below n, and from n on
pub padded-at : (l : ℕ) (f : ℕ → ℕ) (n i : ℕ) → i < n → get_or (padded l f n) i 0 ≡ f i
unfolding padded
padded-at l f n i h = get_or-append (table f n) (replicate (l - n) 0) 0 i (rw (table-length f n) h) ∙ table_at f n i h

pub zeros : (l i : ℕ) → ◌≡◌ {A = ℕ} (get_or (replicate l 0) i 0) 0
zeros zero i = refl
zeros (suc l) zero = refl
zeros (suc l) (suc i) = zeros l i

pub padded-past : (l : ℕ) (f : ℕ → ℕ) (n i : ℕ) → n ≤ i → get_or (padded l f n) i 0 ≡ 0
unfolding padded
padded-past l f n i h =
    let e : i ≡ length (table f n) + (i - n) = omega (arith, table-length f n) in
    rw e (get_or-append-add (table f n) (replicate (l - n) 0) (i - n) 0 ∙ zeros (l - n) (i - n))

-- two tables of as many places that agree on the first n, with zeros past them
pub same-table : {l m : List ℕ} {k : ℕ} (n : ℕ) → length l ≡ k → length m ≡ k → ((i : ℕ) → i < n → get_or l i 0 ≡ get_or m i 0) → ((i : ℕ) → n ≤ i → get_or l i 0 ≡ 0)
    → ((i : ℕ) → n ≤ i → get_or m i 0 ≡ 0) → l ≡ m
same-table {l} {m} n a b same x y = ext_get_or 0 l m (a ∙ sym b) (λ i h. go i (le-or-lt n i))
  where
    go : (i : ℕ) → (n ≤ i) ⊎ (i < n) → get_or l i 0 ≡ get_or m i 0
    go i (inl h) = x i h ∙ sym (y i h)
    go i (inr h) = same i h

-- one place more is laid
pub set_next : (old p : List ℕ) (v n : ℕ) → length p ≡ n → n < length old → set (p ++ drop n old) n v ≡ (p ++ (v ∷ [])) ++ drop (n + 1) old
set_next old p v n e l =
    ap (λ (q : List ℕ). set (p ++ q) n v) (drop-cons old n 0 l)
    ∙ set_at p (get_or old n 0) (drop (suc n) old) v n e
    ∙ sym (append_assoc p (v ∷ []) (drop (suc n) old))
    ∙ ap (λ (k : ℕ). (p ++ (v ∷ [])) ++ drop k old) (sym (add-one n))

pub table-next : (f : ℕ → ℕ) (n : ℕ) (old : List ℕ) → n < length old → set (table f n ++ drop n old) n (f n) ≡ table f (n + 1) ++ drop (n + 1) old
unfolding table
table-next f n old l = rw (add-one n) (rw add-one at (set_next old (table f n) (f n) n (table-length f n) l))
