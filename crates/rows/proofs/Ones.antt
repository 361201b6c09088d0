-- A row has a one for each edge to its vertex: edges ascend, so that no edge stands twice.
use mathlib.Core.Path.{◌≡◌, refl, sym, ap, ap₂, ◌∙◌}
use mathlib.Core.List.{List}
use mathlib.Core.Bool.{Bool, true, false, ◌&&◌, ◌||◌, or-false, and-true, and-false}
use Prim.Native.Nat.{ℕ, zero, suc, ◌+◌, ◌-◌, ◌≤◌, ◌<◌}
use native.Mathlib.Omega.{arith}
use native.Mathlib.Decide.{ℕ_discrete}
use lib.Dec.{eqb}
use lib.ListN.{get_or}
use borrow.Author.Tests.{eq-eqb, ne_eqb, eqb-true}
use Rattle.model.specs.Places.{bit, count, any}
use Rattle.model.proofs.Bools.{clash, both, left-of, right_of, same_test, not-true}
use Rattle.model.proofs.Places.{count_ext, count_none, count_split, count-any, any_intro, any_elim}
use Rattle.starts.specs.Starts.{comes_from, leads_to, Rows}
use Rattle.vset.specs.Members.{is_in}
use Rattle.sets.specs.Sets.{row_of, Holds}
use Rattle.rows.specs.Rows.{predecessor, ones_among}

-- how many of the first m edges lead to v from a vertex for which p holds
abbrev entering : List ℕ → (ℕ → Bool) → ℕ → ℕ → ℕ
entering l p m v = count (λ i. p (comes_from l i) && eqb (leads_to l i) v) m

-- only one number is x
only : (c : ℕ → Bool) (x n : ℕ) → x < n → count (λ u. eqb x u && c u) n ≡ bit (c x)
only c x n l =
    count-any (λ u. eqb x u && c u) n (λ i k a b p q. sym (eqb-true x i (left-of (eqb x i) (c i) p)) ∙ eqb-true x k (left-of (eqb x k) (c k) q))
    ∙ ap bit (same_test (any (λ u. eqb x u && c u) n) (c x) to (λ t. any_intro (λ u. eqb x u && c u) n x l (both (eqb x x) (c x) (eq-eqb x x refl) t)))
  where
    to : any (λ u. eqb x u && c u) n ≡ true → c x ≡ true
    to t = let r = any_elim (λ u. eqb x u && c u) n t in rw (eqb-true x r.0 (left-of (eqb x r.0) (c r.0) r.2)) (right_of (eqb x r.0) (c r.0) r.2)

module _ {l : List ℕ} {m n : ℕ} {st : List ℕ} (R : Rows l m n st) where
  pub edges_rise : (i d : ℕ) → i + d < m → get_or l i 0 ≤ get_or l (i + d) 0
  edges_rise i zero h = let e : i + zero ≡ i = omega arith in rw e (omega arith)
  edges_rise i (suc d) h =
      let e : i + suc d ≡ suc (i + d) = omega arith in
      rw e (omega (arith, edges_rise i d (omega arith), R.ascending (i + d) (omega arith)))

  -- an edge is none of those before it
  fresh : (k : ℕ) → k < m → predecessor l k (leads_to l k) (comes_from l k) ≡ false
  unfolding predecessor
  fresh k h = not-true (any (λ i. eqb (comes_from l i) (comes_from l k) && eqb (leads_to l i) (leads_to l k)) k) no_other
    where
      no_other : any (λ i. eqb (comes_from l i) (comes_from l k) && eqb (leads_to l i) (leads_to l k)) k ≡ true → ⊥
      no_other t =
          let r = any_elim (λ i. eqb (comes_from l i) (comes_from l k) && eqb (leads_to l i) (leads_to l k)) k t in
          let i = r.0 in
          let a = eqb-true (comes_from l i) (comes_from l k) (left-of (eqb (comes_from l i) (comes_from l k)) (eqb (leads_to l i) (leads_to l k)) r.2) in
          let b = eqb-true (leads_to l i) (leads_to l k) (right_of (eqb (comes_from l i) (comes_from l k)) (eqb (leads_to l i) (leads_to l k)) r.2) in
          let s : suc i + (k - suc i) ≡ k = omega (arith, r.1) in
          omega (arith, r.1, R.ascending i (omega (arith, r.1)), rw s at (edges_rise (suc i) (k - suc i) (omega (arith, r.1))), a, b)

  module _ (p : ℕ → Bool) (v : ℕ) where
    predecessor-suc : (k u : ℕ) → predecessor l (suc k) v u ≡ predecessor l k v u || (eqb (comes_from l k) u && eqb (leads_to l k) v)
    unfolding predecessor any
    predecessor-suc k u = refl

    entering-suc : (k : ℕ) → entering l p (suc k) v ≡ entering l p k v + bit (p (comes_from l k) && eqb (leads_to l k) v)
    unfolding count
    entering-suc k = refl

    -- one more, where it is another
    apart : (a b c : Bool) → (b ≡ true → a ≡ false) → bit ((a || (b && true)) && c) ≡ bit (a && c) + bit (b && c)
    apart true true c f = absurd (clash refl (f refl))
    apart true false c f = omega arith
    apart false true c f = omega arith
    apart false false c f = refl

    module _ (k : ℕ) (h : k < m) (ih : count (λ u. predecessor l k v u && p u) 128 ≡ entering l p k v) where
      abbrev x : ℕ
      x = comes_from l k

      known : x < 128
      known = omega (arith, R.from_known k h, R.few_vertices)

      here : leads_to l k ≡ v → count (λ u. (predecessor l k v u || (eqb x u && true)) && p u) 128 ≡ entering l p k v + bit (p x && true)
      here e =
          let f : predecessor l k v x ≡ false = rw (← e) (fresh k h) in
          count_split (λ u. (predecessor l k v u || (eqb x u && true)) && p u) (λ u. predecessor l k v u && p u) (λ u. eqb x u && p u) 128
          (λ u b. apart (predecessor l k v u) (eqb x u) (p u) (λ q. rw (← eqb-true x u q) f))
          ∙ ap₂ ◌+◌ ih (only p x 128 known ∙ ap bit (sym (and-true (p x))))

      elsewhere : count (λ u. (predecessor l k v u || (eqb x u && false)) && p u) 128 ≡ entering l p k v + bit (p x && false)
      elsewhere =
          count_ext (λ u. (predecessor l k v u || (eqb x u && false)) && p u) (λ u. predecessor l k v u && p u) 128
          (λ u b. ap (λ (y : Bool). y && p u) (ap (λ (z : Bool). predecessor l k v u || z) (and-false (eqb x u)) ∙ or-false (predecessor l k v u)))
          ∙ ih
          ∙ no_more (entering l p k v) (p x)
        where
          no_more : (a : ℕ) (b : Bool) → a ≡ a + bit (b && false)
          no_more a true = omega arith
          no_more a false = omega arith

      ones-next : count (λ u. predecessor l (suc k) v u && p u) 128 ≡ entering l p (suc k) v
      ones-next = count_ext (λ u. predecessor l (suc k) v u && p u) (λ u. (predecessor l k v u || (eqb x u && eqb (leads_to l k) v)) && p u) 128 (λ u b. ap (λ (y : Bool). y && p u) (predecessor-suc k u)) ∙ go (ℕ_discrete (leads_to l k) v) ∙ sym (entering-suc k)
        where
          go : Dec (leads_to l k ≡ v) → count (λ u. (predecessor l k v u || (eqb x u && eqb (leads_to l k) v)) && p u) 128 ≡ entering l p k v + bit (p x && eqb (leads_to l k) v)
          go (yes e) = rw (eq-eqb (leads_to l k) v e) (here e)
          go (no e) = rw (ne_eqb (leads_to l k) v e) elsewhere

    ones_none : count (λ u. predecessor l 0 v u && p u) 128 ≡ entering l p 0 v
    unfolding predecessor any
    ones_none = count_none (λ u. predecessor l 0 v u && p u) 128 (λ u b. refl) ∙ sym (count_none (λ i. p (comes_from l i) && eqb (leads_to l i) v) 0 (λ i b. absurd (omega arith)))

    ones-upto : (k : ℕ) → k ≤ m → count (λ u. predecessor l k v u && p u) 128 ≡ entering l p k v
    ones-upto zero h = ones_none
    ones-upto (suc k) h = ones-next k (omega arith) (ones-upto k (omega arith))

    -- THEOREM. The ones that row v has in common with a set of vertices are as many as the edges to v from vertices of that set.
    pub ones-entering : {t : List (List ℕ)} → Holds t (predecessor l m) → v < 128 → count (λ u. is_in (row_of t v) u && p u) 128 ≡ entering l p m v
    ones-entering {t} H h = count_ext (λ u. is_in (row_of t v) u && p u) (λ u. predecessor l m v u && p u) 128 (λ u b. ap (λ (x : Bool). x && p u) (H.row v u h)) ∙ ones-upto m (omega arith)

  -- all its ones are as many as the edges to v
  pub all_ones : {t : List (List ℕ)} → Holds t (predecessor l m) → (v : ℕ) → v < 128 → ones_among t v ≡ entering l (λ u. true) m v
  unfolding ones_among
  all_ones {t} H v h = count_ext (is_in (row_of t v)) (λ u. is_in (row_of t v) u && true) 128 (λ u b. sym (and-true (is_in (row_of t v) u))) ∙ ones-entering (λ u. true) v H h
