-- The successors of a vertex are told, edge by edge. Who comes free by that is listed next.
use mathlib.Core.Path.{◌≡◌, refl, sym, ap, ap₂, ◌∙◌}
use mathlib.Core.List.{List}
use mathlib.Core.Bool.{Bool, true, false, not, ◌&&◌}
use Prim.Native.Nat.{ℕ, ◌+◌, ◌-◌, ◌≤◌, ◌<◌}
use native.Mathlib.Omega.{arith}
use native.Mathlib.Decide.{ℕ_discrete}
use lib.Dec.{eqb}
use lib.ListN.{get_or, set, length, length-set}
use lib.Seq.{get_or-set_same, get_or-set_other}
use borrow.Author.Tests.{eq-eqb, ne_eqb, eqb-true}
use Rattle.model.specs.Places.{bit, count}
use Rattle.model.proofs.Places.{count-more, count_ext, count_split, count-any, count-some, any_intro}
use Rattle.waiting.specs.Waiting.{leading}
use Rattle.waiting.proofs.Telling.{leading-none, one_followed}
use Rattle.starts.specs.Starts.{leads_to}
use Rattle.cycle.specs.Line.{free, times, everyone, Told}

-- ---- a place more in a list

pub times_none : (o : List ℕ) (v : ℕ) → times o 0 v ≡ 0
unfolding times count
times_none o v = refl

-- what is listed next counts, and nothing before it is touched
pub times_more : (o : List ℕ) (k x v : ℕ) → k < length o → times (set o k x) (k + 1) v ≡ times o k v + bit (eqb v x)
unfolding times
times_more o k x v h =
    count-more (λ j. eqb v (get_or (set o k x) j 0)) k
    ∙ ap₂ (λ (a b : ℕ). a + bit (eqb v b)) (count_ext (λ j. eqb v (get_or (set o k x) j 0)) (λ j. eqb v (get_or o j 0)) k (λ j b. ap (λ (y : ℕ). eqb v y) (get_or-set_other o k j x 0 (λ e. omega arith))))
    (get_or-set_same o k x 0 h)

-- ---- along the edges

only_one : (t n : ℕ) → t < n → count (λ v. eqb v t) n ≡ 1
only_one t n h =
    count-any (λ v. eqb v t) n (λ i k a b p q. eqb-true i t p ∙ sym (eqb-true k t q))
    ∙ ap bit (any_intro (λ v. eqb v t) n t h (eq-eqb t t refl))

module _ (l : List ℕ) (a : ℕ) (w o : List ℕ) (k : ℕ) where
  pub told_none : length w ≡ 128 → length o ≡ 128 → Told l a a w o k w o k
  told_none long size = record {
    long = long;
    less = λ v. omega (arith, leading-none l a v);
    size = size;
    more = omega arith;
    kept = λ j h. refl;
    once = λ v. nobody (free w v) (times o k v);
    rest = refl;
  }
    where
      nobody : (b : Bool) (x : ℕ) → x ≡ x + bit (not b && b)
      nobody true x = omega arith
      nobody false x = omega arith

  module _ (i : ℕ) (old p : List ℕ) (all : ℕ) (T : Told l a i w o k old p all) (h : a ≤ i) where
    abbrev t : ℕ
    t = leads_to l i

    module _ (known : t < 128) (some : 0 < get_or old t 0) where
      abbrev new : List ℕ
      new = set old t (get_or old t 0 - 1)

      at-t : get_or new t 0 ≡ get_or old t 0 - 1
      at-t = get_or-set_same old t (get_or old t 0 - 1) 0 (omega (arith, T.long))

      at_other : (v : ℕ) → (v ≡ t → ⊥) → get_or new v 0 ≡ get_or old v 0
      at_other v e = get_or-set_other old t v (get_or old t 0 - 1) 0 e

      long : length new ≡ 128
      long = length-set old t (get_or old t 0 - 1) ∙ T.long

      less : (v : ℕ) → get_or new v 0 ≡ get_or w v 0 - leading l a (i + 1) v
      less = one_followed l a i h w old T.less new at-t at_other

      waited : free old t ≡ false
      waited = ne_eqb (get_or old t 0) 0 (λ z. omega arith)

      -- so it waited at first
      waits-first : free w t ≡ false
      waits-first = ne_eqb (get_or w t 0) 0 (λ z. omega (arith, T.less t))

      -- there is a place for t in the line
      pub place-left : everyone w k ≤ 128 → all < 128
      place-left few = omega (arith, T.rest, count-some (λ v. not (free old v)) 128 t known (ap not waited))

      -- t has more predecessors that are left
      pub told_still : (get_or old t 0 - 1 ≡ 0 → ⊥) → Told l a (i + 1) w o k new p all
      told_still e = record {
        long = long;
        less = less;
        size = T.size;
        more = T.more;
        kept = T.kept;
        once = λ v. T.once v ∙ ap (λ (b : Bool). times o k v + bit (not (free w v) && b)) (sym (same v (ℕ_discrete v t)));
        rest = ap (λ (x : ℕ). all + x) (count_ext (λ v. not (free new v)) (λ v. not (free old v)) 128 (λ v b. ap not (same v (ℕ_discrete v t)))) ∙ T.rest;
      }
        where
          same : (v : ℕ) → Dec (v ≡ t) → free new v ≡ free old v
          same v (yes q) = rw q (ap (λ (x : ℕ). eqb x 0) at-t ∙ ne_eqb (get_or old t 0 - 1) 0 e ∙ sym waited)
          same v (no q) = ap (λ (x : ℕ). eqb x 0) (at_other v q)

      -- t waits for nobody any more
      pub told_free : all < 128 → get_or old t 0 - 1 ≡ 0 → Told l a (i + 1) w o k new (set p all t) (all + 1)
      told_free room e = record {
        long = long;
        less = less;
        size = length-set p all t ∙ T.size;
        more = omega (arith, T.more);
        kept = λ j b. get_or-set_other p all j t 0 (λ q. omega (arith, T.more)) ∙ T.kept j b;
        once = λ v. times_more p all t v (omega (arith, T.size)) ∙ ap (λ (x : ℕ). x + bit (eqb v t)) (T.once v) ∙ listed v (ℕ_discrete v t);
        rest = omega (arith, T.rest, one_less, only_one t 128 known);
      }
        where
          freed : free new t ≡ true
          freed = ap (λ (x : ℕ). eqb x 0) (at-t ∙ e)

          listed : (v : ℕ) → Dec (v ≡ t) → times o k v + bit (not (free w v) && free old v) + bit (eqb v t) ≡ times o k v + bit (not (free w v) && free new v)
          listed v (yes q) = rw (q, freed, waited, waits-first, eq-eqb t t refl) (omega arith)
          listed v (no q) = rw (ne_eqb v t q, at_other v q) (omega arith)

          one_less : count (λ v. not (free old v)) 128 ≡ count (λ v. not (free new v)) 128 + count (λ v. eqb v t) 128
          one_less = count_split (λ v. not (free old v)) (λ v. not (free new v)) (λ v. eqb v t) 128 (λ v b. parts v (ℕ_discrete v t))
            where
              parts : (v : ℕ) → Dec (v ≡ t) → bit (not (free old v)) ≡ bit (not (free new v)) + bit (eqb v t)
              parts v (yes q) = rw (q, freed, waited, eq-eqb t t refl) refl
              parts v (no q) = rw (ne_eqb v t q, at_other v q) (omega arith)
