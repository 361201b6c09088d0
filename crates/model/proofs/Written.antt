-- A list of which the first places are written, one after another.
use mathlib.Core.Path.{◌≡◌, refl, sym, ap, ◌∙◌}
use mathlib.Core.List.{[], List, ◌∷◌, ◌++◌, append_assoc}
use Prim.Native.Nat.{ℕ, suc, ◌+◌, ◌≤◌, ◌<◌}
use native.Mathlib.Numerals.{add-one}
use native.Mathlib.Omega.{arith}
use lib.ListN.{length, get_or, set, drop, length-append, length-drop}
use lib.Seq.{set_at, drop-cons}
use Rattle.model.specs.Places.{table}
use Rattle.model.proofs.Tables.{table-length}

pub written_none : (f : ℕ → ℕ) (l : List ℕ) → l ≡ table f 0 ++ drop 0 l
unfolding table
written_none f l = refl

pub written-more : (f : ℕ → ℕ) (l : List ℕ) (v : ℕ) → v < length l → set (table f v ++ drop v l) v (f v) ≡ table f (v + 1) ++ drop (v + 1) l
unfolding table
written-more f l v h =
    ap (λ (r : List ℕ). set (table f v ++ r) v (f v)) (drop-cons l v 0 h)
    ∙ set_at (table f v) (get_or l v 0) (drop (suc v) l) (f v) v (table-length f v)
    ∙ sym (append_assoc (table f v) (f v ∷ []) (drop (suc v) l))
    ∙ sym (ap (λ (x : ℕ). table f x ++ drop x l) (add-one v))

pub written-length : (f : ℕ → ℕ) (l : List ℕ) (v : ℕ) → v ≤ length l → length (table f v ++ drop v l) ≡ length l
written-length f l v h = omega (arith, length-append (table f v) (drop v l), table-length f v, length-drop v l)
