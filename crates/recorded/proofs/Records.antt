-- What a log in form tells of its records.
use mathlib.Core.Path.{◌≡◌}
use mathlib.Core.Logic.{◌⊎◌}
use mathlib.Core.Bool.{Bool, true, false, not, ◌&&◌, ◌||◌}
use mathlib.Core.List.{List}
use Prim.Native.Nat.{ℕ, zero, suc, ◌-◌, ◌≤◌, ◌<◌}
use native.Mathlib.Omega.{arith}
use native.Mathlib.Decide.{ℕ_discrete}
use lib.Dec.{eqb, ltb}
use borrow.Author.Tests.{lt-ltb, ltb-true, eq-eqb, eqb-true, ltb-false, leb-false}
use Rattle.model.specs.Places.{any}
use Rattle.model.proofs.Bools.{clash, both, left-of, right_of, or_neither, or_cases, not-true, true-not, not-is-true, not-false, not-second, bit-one, bit-zero, bit_le}
use Rattle.model.proofs.Places.{any_intro, any_elim, any_none, any_false}
use Rattle.graph.specs.File.{records, byte_at}
use Rattle.recorded.specs.Log.{is_start, is_stop, who, instant_at, key, starts, stops, running, fault, unknown_kind, unknown_vertex, spare_set, wrong_order, start_while_running, stop_while_not_running, too_late, unended, InForm}

-- what a record that is not at fault tells
pub record Fine (n : ℕ) (l : List ℕ) (k : ℕ) : Type 0 where
  pub known : (is_start l k ≡ true) ⊎ (is_stop l k ≡ true)
  pub vertex : who l k < n
  pub above : 0 < k → key l (k - 1) < key l k
  pub start : is_start l k ≡ true → running l k (who l k) ≡ false
  pub stop : is_stop l k ≡ true → running l k (who l k) ≡ true
  pub early : instant_at l k ≤ 128000000

pub fine : (n : ℕ) (l : List ℕ) (k : ℕ) → fault n l k ≡ false → Fine n l k
unfolding fault unknown_kind unknown_vertex spare_set wrong_order start_while_running stop_while_not_running too_late
fine n l k f =
    let a = or_neither (unknown_kind l k) _ f in
    let b = or_neither (unknown_vertex n l k) _ a.1 in
    let c = or_neither (spare_set l k) _ b.1 in
    let d = or_neither (wrong_order l k) _ c.1 in
    let e = or_neither (start_while_running l k) _ d.1 in
    let g = or_neither (stop_while_not_running l k) _ e.1 in
    record {
      known = or_cases (is_start l k) (is_stop l k) (not-false (is_start l k || is_stop l k) a.0);
      vertex = leb-false n (who l k) b.0;
      above = λ p. leb-false (key l k) (key l (k - 1)) (not-second (ltb 0 k) _ d.0 (lt-ltb 0 k p));
      start = λ s. not-second (is_start l k) _ e.0 s;
      stop = λ s. not-false (running l k (who l k)) (not-second (is_stop l k) _ g.0 s);
      early = ltb-false 128000000 (instant_at l k) g.1;
    }

pub not-both : (l : List ℕ) (k : ℕ) → is_start l k ≡ true → is_stop l k ≡ true → ⊥
unfolding is_start is_stop
not-both l k a b = omega (arith, eqb-true (byte_at l k 0) 0x53 a, eqb-true (byte_at l k 0) 0x50 b)

-- ---- a record of one sort with none of another sort after it

pub record Lasting (p q : ℕ → Bool) (m : ℕ) : Type 0 where
  pub from : ℕ
  pub within : from < m
  pub is : p from ≡ true
  pub on : (j : ℕ) → from < j → j < m → q j ≡ false

pub lasts_elim : (p q : ℕ → Bool) (m : ℕ) → any (λ i. p i && not (any (λ j. ltb i j && q j) m)) m ≡ true → Lasting p q m
lasts_elim p q m e =
    let r = any_elim (λ i. p i && not (any (λ j. ltb i j && q j) m)) m e in
    let i = r.0 in
    let x : any (λ j. ltb i j && q j) m ≡ false = not-is-true (any (λ j. ltb i j && q j) m) (right_of (p i) (not (any (λ j. ltb i j && q j) m)) r.2) in
    record {
      from = i;
      within = r.1;
      is = left-of (p i) (not (any (λ j. ltb i j && q j) m)) r.2;
      on = λ j a b. not-second (ltb i j) (q j) (any_false (λ j. ltb i j && q j) m j b x) (lt-ltb i j a);
    }

pub lasts_intro : (p q : ℕ → Bool) (m : ℕ) → Lasting p q m → any (λ i. p i && not (any (λ j. ltb i j && q j) m)) m ≡ true
lasts_intro p q m r =
    let i = r.from in
    any_intro (λ i. p i && not (any (λ j. ltb i j && q j) m)) m i r.within
    (both (p i) (not (any (λ j. ltb i j && q j) m)) r.is
    (true-not (any (λ j. ltb i j && q j) m) (any_none (λ j. ltb i j && q j) m
    (λ j b. not-true (ltb i j && q j) (λ e. clash (right_of (ltb i j) (q j) e) (r.on j (ltb-true i j (left-of (ltb i j) (q j) e)) b))))))

pub running_elim : (l : List ℕ) (k v : ℕ) → running l k v ≡ true → Lasting (starts l v) (stops l v) k
unfolding running
running_elim l k v e = lasts_elim (starts l v) (stops l v) k e

pub running_intro : (l : List ℕ) (k v : ℕ) → Lasting (starts l v) (stops l v) k → running l k v ≡ true
unfolding running
running_intro l k v r = lasts_intro (starts l v) (stops l v) k r

pub start_of : (l : List ℕ) (v k : ℕ) → starts l v k ≡ true → (is_start l k ≡ true) × (who l k ≡ v)
unfolding starts
start_of l v k e = (left-of (is_start l k) _ e, eqb-true (who l k) v (right_of (is_start l k) _ e))

pub stop-of : (l : List ℕ) (v k : ℕ) → stops l v k ≡ true → (is_stop l k ≡ true) × (who l k ≡ v)
unfolding stops
stop-of l v k e = (left-of (is_stop l k) _ e, eqb-true (who l k) v (right_of (is_stop l k) _ e))

pub of-start : (l : List ℕ) (v k : ℕ) → is_start l k ≡ true → who l k ≡ v → starts l v k ≡ true
unfolding starts
of-start l v k a b = both (is_start l k) (eqb (who l k) v) a (eq-eqb (who l k) v b)

pub of-stop : (l : List ℕ) (v k : ℕ) → is_stop l k ≡ true → who l k ≡ v → stops l v k ≡ true
unfolding stops
of-stop l v k a b = both (is_stop l k) (eqb (who l k) v) a (eq-eqb (who l k) v b)

-- ---- the records of a log in form, in their order

module _ {n : ℕ} {l : List ℕ} (f : InForm n l) where
  pub fine-at : (k : ℕ) → k < records l → Fine n l k
  fine-at k h = fine n l k (f.no_fault k h)

  pub keys_rise : (i j : ℕ) → i < j → j < records l → key l i < key l j
  keys_rise i zero a b = absurd (omega arith)
  keys_rise i (suc j) a b = go (ℕ_discrete i j) (λ h. keys_rise i j h (omega arith))
    where
      next : key l j < key l (suc j)
      next = let e : suc j - 1 ≡ j = omega arith in rw e at ((fine-at (suc j) b).above (omega arith))

      go : Dec (i ≡ j) → (i < j → key l i < key l j) → key l i < key l (suc j)
      go (yes e) ih = rw e next
      go (no x) ih = omega (arith, ih (omega arith), next)

  module _ (few : n ≤ 256) where
    -- a later record is at a later instant, or at the same
    pub instants_rise : (i j : ℕ) → i < j → j < records l → instant_at l i ≤ instant_at l j
    unfolding key
    instants_rise i j a b =
        omega (arith, keys_rise i j a b, (fine-at i (omega arith)).vertex, (fine-at j b).vertex, bit_le (is_start l i), bit_le (is_start l j))

    -- stops come before starts
    pub start-then-stop : (i j : ℕ) → i < j → j < records l → is_start l i ≡ true → is_stop l j ≡ true → instant_at l i < instant_at l j
    unfolding key
    start-then-stop i j a b s e =
        omega (arith, keys_rise i j a b, (fine-at j b).vertex, bit-one (is_start l i) s, bit-zero (is_start l j) (not-true (is_start l j) (λ x. not-both l j x e)))

  pub stopped : (v : ℕ) → running l (records l) v ≡ true → ⊥
  unfolding unended
  stopped v e =
      let r = running_elim l (records l) v e in
      let w : who l r.from ≡ v = (start_of l v r.from r.is).1 in
      let h : v < n = omega (arith, (fine-at r.from r.within).vertex) in
      clash e (any_false (running l (records l)) n v h f.all_stopped)
