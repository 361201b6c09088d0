-- The remainders lowered where they stand, one vertex after another.
use mathlib.Core.Path.{◌≡◌, refl, sym, ap, ◌∙◌}
use mathlib.Core.Logic.{◌⊎◌, inl, inr}
use mathlib.Core.List.{List}
use mathlib.Core.Bool.{Bool, true, false, not, ◌&&◌, ◌||◌, or-true, or-false, and-false, and-true}
use Prim.Native.Nat.{ℕ, ◌-◌, ◌<◌, min}
use native.Mathlib.Omega.{arith}
use lib.Dec.{eqb}
use lib.ListN.{get_or, set, length, length-set}
use borrow.Author.Tests.{eqb-true, eq-eqb}
use Rattle.model.specs.Places.{pick, table}
use Rattle.model.proofs.Bools.{clash, cases}
use Rattle.vset.specs.declared.Vset.{Vset}
use Rattle.vset.specs.Members.{is_in, Members}
use Rattle.vset.proofs.Gather.{members_ext}
use Rattle.vset.proofs.Taking.{still_in, taken_more, none-taken, all-taken}
use Rattle.remains.specs.Remains.{place, TOP, lowered, LeastFrom}
use Rattle.remains.proofs.Fewest.{least-none, least_more, least_ext}
use Rattle.model.proofs.Turns.{as_table, put-at}

-- the vertices in `on` that are no longer in the rest are lowered
pub record Lowering (old : List ℕ) (on : ℕ → Bool) (d : ℕ) (left : List ℕ) (over : Vset) (best : ℕ) (rest : ℕ → Bool) : Type 0 where
  pub long : length left ≡ 128
  pub lower : (v : ℕ) → get_or left v 0 ≡ lowered old (λ u. on u && not (rest u)) d v
  pub inside : (v : ℕ) → rest v ≡ true → on v ≡ true
  pub marks : Members over (λ v. (on v && not (rest v)) && eqb (get_or left v 0) 0)
  pub fewest : LeastFrom (place left) (λ v. (on v && not (rest v)) && not (eqb (get_or left v 0) 0)) TOP best

module _ (old : List ℕ) (on : ℕ → Bool) (d : ℕ) where
  pub lowering_none : length old ≡ 128 → (over : Vset) → Members over (λ v. false) → Lowering old on d old over TOP on
  unfolding lowered
  lowering_none long over m = record {
    long = long;
    lower = λ v. rw (none-taken on v) (omega arith);
    inside = λ v t. t;
    marks = members_ext over (λ v. false) (λ v. (on v && not (on v)) && eqb (get_or old v 0) 0) m (λ v. sym (ap (λ (b : Bool). b && eqb (get_or old v 0) 0) (none-taken on v)));
    fewest = least-none (place old) (λ v. (on v && not (on v)) && not (eqb (get_or old v 0) 0)) TOP (λ v. ap (λ (b : Bool). b && not (eqb (get_or old v 0) 0)) (none-taken on v));
  }

  module _ (left : List ℕ) (over : Vset) (best : ℕ) (rest : ℕ → Bool) (L : Lowering old on d left over best rest) where
    -- what is over in the rest stands as it was
    pub untouched : (t : ℕ) → rest t ≡ true → get_or left t 0 ≡ get_or old t 0
    unfolding lowered
    untouched t h = L.lower t ∙ ap (λ (b : Bool). get_or old t 0 - pick (on t && not b) d 0) h ∙ ap (λ (b : Bool). get_or old t 0 - pick b d 0) (and-false (on t)) ∙ omega arith

    pub lowering_more : (t : ℕ) → t < 128 → rest t ≡ true → (next : ℕ → Bool) → ((k : ℕ) → next k ≡ rest k && not (eqb k t)) → (more : Vset)
        → Members more (λ k. is_in over k || (eqb (get_or left t 0 - d) 0 && eqb k t)) → (few : ℕ)
        → few ≡ pick (not (eqb (get_or left t 0 - d) 0)) (min best (get_or left t 0 - d)) best → Lowering old on d (set left t (get_or left t 0 - d)) more few next
    unfolding lowered
    lowering_more t l here next is-next more m few is-few = record {
      long = length-set left t (get_or left t 0 - d) ∙ L.long;
      lower = λ v. put v ∙ go v (cases (eqb v t));
      inside = λ v h. L.inside v (still_in rest next t is-next here v h);
      marks = members_ext more (λ k. is_in over k || (eqb (get_or left t 0 - d) 0 && eqb k t)) (λ v. (on v && not (next v)) && eqb (get_or (set left t (get_or left t 0 - d)) v 0) 0) m
          (λ v. mark v (cases (eqb v t)) ∙ ap (λ (x : ℕ). (on v && not (next v)) && eqb x 0) (sym (put v)));
      fewest = fewest (cases (eqb (get_or left t 0 - d) 0));
    }
      where
        put : (v : ℕ) → get_or (set left t (get_or left t 0 - d)) v 0 ≡ pick (eqb v t) (get_or left t 0 - d) (get_or left v 0)
        put v = put-at left t (get_or left t 0 - d) v (omega (arith, L.long))

        taken : (v : ℕ) → on v && not (next v) ≡ (on v && not (rest v)) || eqb v t
        taken = taken_more rest next t is-next here on (L.inside t here)

        at : (v : ℕ) → eqb v t ≡ true → on v && not (next v) ≡ true
        at v q = taken v ∙ ap (λ (b : Bool). (on v && not (rest v)) || b) q ∙ or-true (on v && not (rest v))

        off : (v : ℕ) → eqb v t ≡ false → on v && not (next v) ≡ on v && not (rest v)
        off v q = taken v ∙ ap (λ (b : Bool). (on v && not (rest v)) || b) q ∙ or-false (on v && not (rest v))

        go : (v : ℕ) → (eqb v t ≡ true) ⊎ (eqb v t ≡ false) → pick (eqb v t) (get_or left t 0 - d) (get_or left v 0) ≡ get_or old v 0 - pick (on v && not (next v)) d 0
        go v (inl q) = rw (at v q, q) (ap (λ (x : ℕ). x - d) (untouched t here ∙ ap (λ (u : ℕ). get_or old u 0) (sym (eqb-true v t q))))
        go v (inr q) = rw (off v q, q) (L.lower v)

        mark : (v : ℕ) → (eqb v t ≡ true) ⊎ (eqb v t ≡ false)
            → is_in over v || (eqb (get_or left t 0 - d) 0 && eqb v t) ≡ (on v && not (next v)) && eqb (pick (eqb v t) (get_or left t 0 - d) (get_or left v 0)) 0
        mark v (inl q) =
            let r : rest v ≡ true = ap rest (eqb-true v t q) ∙ here in
            rw (at v q, q, L.marks.are v, r, and-false (on v)) (and-true (eqb (get_or left t 0 - d) 0))
        mark v (inr q) = rw (off v q, q, and-false (eqb (get_or left t 0 - d) 0), or-false (is_in over v)) (L.marks.are v)

        -- who has ticks left, of those that are lowered
        p : ℕ → Bool
        p v = (on v && not (rest v)) && not (eqb (get_or left v 0) 0)

        q : ℕ → Bool
        q v = (on v && not (next v)) && not (eqb (get_or (set left t (get_or left t 0 - d)) v 0) 0)

        goes : (v : ℕ) → (eqb v t ≡ true) ⊎ (eqb v t ≡ false)
            → (on v && not (next v)) && not (eqb (pick (eqb v t) (get_or left t 0 - d) (get_or left v 0)) 0) ≡ p v || (not (eqb (get_or left t 0 - d) 0) && eqb v t)
        goes v (inl q) =
            let r : rest v ≡ true = ap rest (eqb-true v t q) ∙ here in
            rw (at v q, q, r, and-false (on v)) (sym (and-true (not (eqb (get_or left t 0 - d) 0))))
        goes v (inr q) = rw (off v q, q, and-false (not (eqb (get_or left t 0 - d) 0))) (sym (or-false (p v)))

        going : (v : ℕ) → q v ≡ p v || (not (eqb (get_or left t 0 - d) 0) && eqb v t)
        going v = ap (λ (x : ℕ). (on v && not (next v)) && not (eqb x 0)) (put v) ∙ goes v (cases (eqb v t))

        still : (v : ℕ) → p v ≡ true → (eqb v t ≡ true) ⊎ (eqb v t ≡ false) → get_or left v 0 ≡ get_or (set left t (get_or left t 0 - d)) v 0
        still v h (inl q) =
            let r : rest v ≡ true = ap rest (eqb-true v t q) ∙ here in
            absurd (clash h (ap (λ (b : Bool). (on v && not b) && not (eqb (get_or left v 0) 0)) r ∙ ap (λ (b : Bool). b && not (eqb (get_or left v 0) 0)) (and-false (on v))))
        still v h (inr q) = sym (put v ∙ ap (λ (b : Bool). pick b (get_or left t 0 - d) (get_or left v 0)) q)

        base : LeastFrom (place (set left t (get_or left t 0 - d))) p TOP best
        base = least_ext (place left) (place (set left t (get_or left t 0 - d))) p p TOP best (λ v. refl) (λ v h. still v h (cases (eqb v t))) L.fewest

        here-is : get_or (set left t (get_or left t 0 - d)) t 0 ≡ get_or left t 0 - d
        here-is = put t ∙ ap (λ (b : Bool). pick b (get_or left t 0 - d) (get_or left t 0)) (eq-eqb t t refl)

        fewest : (eqb (get_or left t 0 - d) 0 ≡ true) ⊎ (eqb (get_or left t 0 - d) 0 ≡ false) → LeastFrom (place (set left t (get_or left t 0 - d))) q TOP few
        fewest (inl z) =
            rw (is-few ∙ ap (λ (b : Bool). pick (not b) (min best (get_or left t 0 - d)) best) z)
            (least_ext (place (set left t (get_or left t 0 - d))) (place (set left t (get_or left t 0 - d))) p q TOP best
            (λ v. sym (going v ∙ ap (λ (b : Bool). p v || (not b && eqb v t)) z ∙ or-false (p v))) (λ v h. refl) base)
        fewest (inr z) =
            rw (is-few ∙ ap (λ (b : Bool). pick (not b) (min best (get_or left t 0 - d)) best) z ∙ ap (min best) (sym here-is))
            (least_more (place (set left t (get_or left t 0 - d))) p q t TOP best (λ v. going v ∙ ap (λ (b : Bool). p v || (not b && eqb v t)) z) base)

    pub lowering_all : ((v : ℕ) → rest v ≡ false)
        → (left ≡ table (lowered old on d) 128) × (Members over (λ v. on v && eqb (get_or left v 0) 0) × LeastFrom (place left) (λ v. on v && not (eqb (get_or left v 0) 0)) TOP best)
    unfolding lowered
    lowering_all none = (
      as_table (lowered old on d) 128 left L.long (λ v h. L.lower v ∙ ap (λ (b : Bool). get_or old v 0 - pick b d 0) (all-taken on rest none v)),
      (
        members_ext over (λ v. (on v && not (rest v)) && eqb (get_or left v 0) 0) (λ v. on v && eqb (get_or left v 0) 0) L.marks (λ v. ap (λ (b : Bool). b && eqb (get_or left v 0) 0) (all-taken on rest none v)),
        least_ext (place left) (place left) (λ v. (on v && not (rest v)) && not (eqb (get_or left v 0) 0)) (λ v. on v && not (eqb (get_or left v 0) 0)) TOP best
            (λ v. ap (λ (b : Bool). b && not (eqb (get_or left v 0) 0)) (all-taken on rest none v)) (λ v h. refl) L.fewest,
      ),
    )
