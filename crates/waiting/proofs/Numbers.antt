-- The busy vertices leave the numbers no choice. It follows from one property: where there is no cycle, one set only holds the ends of
-- just those edges that come from it or from a busy vertex.
use mathlib.Core.Path.{◌≡◌, refl, sym, ap, ◌∙◌, fun_ext}
use mathlib.Core.Logic.{◌⊎◌, inl, inr, ⊎_elim}
use mathlib.Core.List.{List}
use mathlib.Core.Bool.{Bool, true, false, not, ◌&&◌, ◌||◌}
use Prim.Native.Nat.{ℕ, zero, suc, ◌≤◌, ◌<◌}
use native.Mathlib.Omega.{arith}
use lib.Dec.{eqb, ltb}
use lib.ListN.{get_or, length}
use lib.Seq.{ext_get_or}
use borrow.Author.Tests.{lt-ltb, ltb-true, eq-eqb, eqb-true}
use Rattle.model.proofs.Bools.{clash, le-or-lt, both, left-of, right_of, or_left, or_right, or_cases, not-is-true, same_test}
use Rattle.model.proofs.Places.{count_ext, count-some, some-counted}
use Rattle.vset.specs.declared.Vset.{Vset}
use Rattle.vset.specs.Members.{is_in}
use Rattle.vset.proofs.Words.{past-none}
use Rattle.vset.proofs.Same.{same_set}
use Rattle.waiting.specs.Waiting.{entering, edges_by, Layout, Settled, Unsettled}
use Rattle.starts.specs.Starts.{comes_from, leads_to}

-- tests that hold of the same vertices count the same edges
pub entering_ext : (l : List ℕ) (p q : ℕ → Bool) (m v : ℕ) → ((u : ℕ) → p u ≡ q u) → entering l p m v ≡ entering l q m v
entering_ext l p q m v e = ap (λ (r : ℕ → Bool). entering l r m v) (fun_ext e)

-- h holds at the ends of just those edges that come from where p or h holds
pub record Closed (l : List ℕ) (m : ℕ) (p h : ℕ → Bool) : Type 0 where
  pub comes : (v : ℕ) → h v ≡ true → (i : ℕ) × (i < m) × (p (comes_from l i) || h (comes_from l i) ≡ true) × (leads_to l i ≡ v)
  pub goes : (i : ℕ) → i < m → p (comes_from l i) || h (comes_from l i) ≡ true → h (leads_to l i) ≡ true

module _ (l : List ℕ) (m : ℕ) (p : ℕ → Bool) (rank : ℕ → ℕ) (rises : (i : ℕ) → i < m → rank (comes_from l i) < rank (leads_to l i)) where
  closed-sub : (h k : ℕ → Bool) → Closed l m p h → Closed l m p k → (r v : ℕ) → rank v < r → h v ≡ true → k v ≡ true
  closed-sub h k A B zero v few t = absurd (omega arith)
  closed-sub h k A B (suc r) v few t = go (A.comes v t) (λ w x. closed-sub h k A B r w x)
    where
      go : (i : ℕ) × (i < m) × (p (comes_from l i) || h (comes_from l i) ≡ true) × (leads_to l i ≡ v) → ((w : ℕ) → rank w < r → h w ≡ true → k w ≡ true) → k v ≡ true
      go (i, x, y, e) ih = rw (← e) (B.goes i x (turn (or_cases (p (comes_from l i)) (h (comes_from l i)) y)))
        where
          turn : (p (comes_from l i) ≡ true) ⊎ (h (comes_from l i) ≡ true) → p (comes_from l i) || k (comes_from l i) ≡ true
          turn (inl z) = or_left (p (comes_from l i)) (k (comes_from l i)) z
          turn (inr z) = or_right (p (comes_from l i)) (k (comes_from l i)) (ih (comes_from l i) (omega (arith, rises i x, ap rank e)) z)

  pub closed_one : (h k : ℕ → Bool) → Closed l m p h → Closed l m p k → (v : ℕ) → h v ≡ k v
  closed_one h k A B v = same_test (h v) (k v) (closed-sub h k A B (suc (rank v)) v (omega arith)) (closed-sub k h B A (suc (rank v)) v (omega arith))

-- who waits for somebody stands at the end of such an edge
pub settled_closed : (l : List ℕ) (m : ℕ) (w : List ℕ) (busy : ℕ → Bool) (b : Vset) → Settled l m w busy b → ((i : ℕ) → i < m → leads_to l i < 128) → Closed l m busy (is_in b)
unfolding entering
settled_closed l m w busy b S known = record { comes = comes; goes = goes }
  where
    test : ℕ → ℕ → Bool
    test v i = (busy (comes_from l i) || is_in b (comes_from l i)) && eqb (leads_to l i) v

    comes : (v : ℕ) → is_in b v ≡ true → (i : ℕ) × (i < m) × (busy (comes_from l i) || is_in b (comes_from l i) ≡ true) × (leads_to l i ≡ v)
    comes v t =
        let h : v < 128 = ⊎_elim (λ (k : 128 ≤ v). absurd (clash t (past-none b S.stand.low S.stand.high v k))) (λ k. k) (le-or-lt 128 v) in
        let i = some-counted (test v) m (omega (arith, S.counts v h, ltb-true 0 (get_or w v 0) (sym (S.stand.are v) ∙ t))) in
        (i.0, i.1, left-of (busy (comes_from l i.0) || is_in b (comes_from l i.0)) (eqb (leads_to l i.0) v) i.2, eqb-true (leads_to l i.0) v (right_of (busy (comes_from l i.0) || is_in b (comes_from l i.0)) (eqb (leads_to l i.0) v) i.2))

    goes : (i : ℕ) → i < m → busy (comes_from l i) || is_in b (comes_from l i) ≡ true → is_in b (leads_to l i) ≡ true
    goes i h t =
        let v = leads_to l i in
        S.stand.are v ∙ lt-ltb 0 (get_or w v 0)
        (omega (arith, S.counts v (known i h), count-some (test v) m i h (both (busy (comes_from l i) || is_in b (comes_from l i)) (eqb v v) t (eq-eqb v v refl))))

-- THEOREM. The busy vertices say who stands behind them and all the numbers.
pub settled-one : (l starts : List ℕ) → Layout l starts → (w w' : List ℕ) (busy : ℕ → Bool) (b b' : Vset) → Settled l (edges_by starts) w busy b → Settled l (edges_by starts) w' busy b' → (b ≡ b') × (w ≡ w')
settled-one l starts L w w' busy b b' S S' = (
  same_set b b' (is_in b) (record { low = S.stand.low; high = S.stand.high; are = λ v. refl }) (record { low = S'.stand.low; high = S'.stand.high; are = λ v. sym (same v) }),
  ext_get_or 0 w w' (S.long ∙ sym S'.long) (λ v h.
      let k : v < 128 = omega (arith, S.long) in
      S.counts v k ∙ entering_ext l (λ u. busy u || is_in b u) (λ u. busy u || is_in b' u) (edges_by starts) v (λ u. ap (λ (x : Bool). busy u || x) (same u)) ∙ sym (S'.counts v k)),
)
  where
    known : (i : ℕ) → i < edges_by starts → leads_to l i < 128
    known i h = (L.known i h).1

    same : (v : ℕ) → is_in b v ≡ is_in b' v
    same = closed_one l (edges_by starts) busy L.rank L.rises (is_in b) (is_in b') (settled_closed l (edges_by starts) w busy b S known) (settled_closed l (edges_by starts) w' busy b' S' known)

-- ---- before a run has begun

-- each edge counts, since each vertex is busy, stands behind another, or has its successors to tell
pub unsettled_all : (l : List ℕ) (m n : ℕ) (w : List ℕ) (busy behind done : ℕ → Bool) → length w ≡ 128 → ((v : ℕ) → v < 128 → get_or w v 0 ≡ entering l (λ u. true) m v) → ((i : ℕ) → i < m → comes_from l i < n)
    → ((v : ℕ) → behind v ≡ ltb 0 (get_or w v 0)) → ((v : ℕ) → done v ≡ ltb v n && not (busy v || behind v)) → Unsettled l m w busy behind done
unfolding entering
unsettled_all l m n w busy behind done long counts known stand is-done = record {
  long = long;
  counts = λ v h. counts v h ∙ count_ext (λ i. true && eqb (leads_to l i) v) (λ i. ((busy (comes_from l i) || behind (comes_from l i)) || done (comes_from l i)) && eqb (leads_to l i) v) m
      (λ i k. ap (λ (b : Bool). b && eqb (leads_to l i) v) (sym (every (comes_from l i) (known i k))));
  stand = stand;
  apart = λ v t. not-is-true (busy v || behind v) (right_of (ltb v n) (not (busy v || behind v)) (sym (is-done v) ∙ t));
}
  where
    either_way : (b : Bool) → b || not b ≡ true
    either_way true = refl
    either_way false = refl

    every : (u : ℕ) → u < n → (busy u || behind u) || done u ≡ true
    every u h = ap (λ (b : Bool). (busy u || behind u) || b) (is-done u ∙ ap (λ (b : Bool). b && not (busy u || behind u)) (lt-ltb u n h)) ∙ either_way (busy u || behind u)
