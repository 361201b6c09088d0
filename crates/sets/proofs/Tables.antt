-- Tables of rows: a row that is put, a table of empty rows; and the members of all rows say which table it is.
use mathlib.Core.Path.{◌≡◌, sym, ap, ◌∙◌, subst}
use mathlib.Core.Bool.{Bool, false}
use mathlib.Core.List.{List, []}
use Prim.Native.Nat.{ℕ, ◌^◌, ◌<◌}
use native.Mathlib.Omega.{arith}
use native.Mathlib.Decide.{ℕ_discrete}
use lib.ListN.{get_or, length, set, replicate, length-set, length-replicate, get_or-replicate}
use lib.Seq.{get_or-set_same, get_or-set_other, ext_get_or}
use Rattle.vset.specs.declared.Vset.{Vset}
use Rattle.vset.specs.Members.{is_in, Members, num}
use Rattle.vset.proofs.Digits.{has-zero}
use Rattle.vset.proofs.Same.{same_set}
use Rattle.sets.specs.Sets.{row_of, words_of, empty, Table, Holds}

-- ---- one row is put

module _ (t : List (List ℕ)) (x : ℕ) (s : Vset) where
  pub row_same : x < length t → row_of (set t x (words_of s)) x ≡ s
  row_same l = ap (λ (r : List ℕ). record { lo = get_or r 0 0; hi = get_or r 1 0 }) (get_or-set_same t x (words_of s) [] l)

  pub row_other : (v : ℕ) → (v ≡ x → ⊥) → row_of (set t x (words_of s)) v ≡ row_of t v
  row_other v d = ap (λ (r : List ℕ). record { lo = get_or r 0 0; hi = get_or r 1 0 }) (get_or-set_other t x v (words_of s) [] d)

  module _ (T : Table t) (l : x < 128) where
    long : x < length t
    long = omega (arith, T.size)

    pub put-table : {p : ℕ → Bool} → Members s p → Table (set t x (words_of s))
    put-table m = record {
      size = length-set t x (words_of s) ∙ T.size;
      row = λ v k. row v k (ℕ_discrete v x);
      low = λ v k. low v k (ℕ_discrete v x);
      high = λ v k. high v k (ℕ_discrete v x);
    }
      where
        row : (v : ℕ) → v < 128 → Dec (v ≡ x) → get_or (set t x (words_of s)) v [] ≡ words_of (row_of (set t x (words_of s)) v)
        row v k (yes e) = rw e (get_or-set_same t x (words_of s) [] long ∙ ap words_of (sym (row_same long)))
        row v k (no e) = get_or-set_other t x v (words_of s) [] e ∙ (T.row v k ∙ ap words_of (sym (row_other v e)))

        low : (v : ℕ) → v < 128 → Dec (v ≡ x) → (row_of (set t x (words_of s)) v).lo < 2 ^ 64
        low v k (yes e) = rw e (subst (λ (r : Vset). r.lo < 2 ^ 64) (sym (row_same long)) m.low)
        low v k (no e) = subst (λ (r : Vset). r.lo < 2 ^ 64) (sym (row_other v e)) (T.low v k)

        high : (v : ℕ) → v < 128 → Dec (v ≡ x) → (row_of (set t x (words_of s)) v).hi < 2 ^ 64
        high v k (yes e) = rw e (subst (λ (r : Vset). r.hi < 2 ^ 64) (sym (row_same long)) m.high)
        high v k (no e) = subst (λ (r : Vset). r.hi < 2 ^ 64) (sym (row_other v e)) (T.high v k)

    pub in_same : (w : ℕ) → is_in (row_of (set t x (words_of s)) x) w ≡ is_in s w
    in_same w = ap (λ (r : Vset). is_in r w) (row_same long)

    pub in_other : (v w : ℕ) → (v ≡ x → ⊥) → is_in (row_of (set t x (words_of s)) v) w ≡ is_in (row_of t v) w
    in_other v w d = ap (λ (r : Vset). is_in r w) (row_other v d)

-- ---- empty rows

empty-row : (v : ℕ) → v < 128 → row_of empty v ≡ record { lo = 0; hi = 0 }
empty-row v l = ap (λ (r : List ℕ). record { lo = get_or r 0 0; hi = get_or r 1 0 }) (get_or-replicate 128 v (replicate {A = ℕ} 2 0) [] l)

pub empty-table : Table empty
empty-table = record {
  size = length-replicate 128 (replicate {A = ℕ} 2 0);
  row = λ v l. get_or-replicate 128 v (replicate {A = ℕ} 2 0) [] l ∙ ap words_of (sym (empty-row v l));
  low = λ v l. subst (λ (r : Vset). r.lo < 2 ^ 64) (sym (empty-row v l)) (omega arith);
  high = λ v l. subst (λ (r : Vset). r.hi < 2 ^ 64) (sym (empty-row v l)) (omega arith);
}

pub empty_in : (v w : ℕ) → v < 128 → is_in (row_of empty v) w ≡ false
unfolding is_in num
empty_in v w l = subst (λ (r : Vset). is_in r w ≡ false) (sym (empty-row v l)) (has-zero w)

-- THEOREM. One table only has the rows that p says.
pub holds_unique : {t t' : List (List ℕ)} {p : ℕ → ℕ → Bool} → Holds t p → Holds t' p → t ≡ t'
holds_unique {t} {t'} {p} a b = ext_get_or [] t t' (a.table.size ∙ sym b.table.size) (λ v l. same v (omega (arith, a.table.size)))
  where
    members : {l : List (List ℕ)} → Holds l p → (v : ℕ) → v < 128 → Members (row_of l v) (p v)
    members h v k = record { low = h.table.low v k; high = h.table.high v k; are = λ w. h.row v w k }

    same : (v : ℕ) → v < 128 → get_or t v [] ≡ get_or t' v []
    same v k = a.table.row v k ∙ (ap words_of (same_set (row_of t v) (row_of t' v) (p v) (members a v k) (members b v k)) ∙ sym (b.table.row v k))
