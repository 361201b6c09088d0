-- The last record of each vertex: it is a stop, and a vertex has ticks left just as long as it has records to come.
--
-- Let the records of v below k be at or before the instant t, and those from k on after it. Where v has a record from k on it has a stop there,
-- since it does not run at the end; it ran in the tick before that stop, which is t or later. And where it runs in a tick from t on, the stop
-- that ends this is after t, so that it is not below k.
use mathlib.Core.Path.{◌≡◌, refl, sym, ◌∙◌}
use mathlib.Core.Logic.{◌⊎◌, inl, inr}
use mathlib.Core.Bool.{Bool, true, false, ◌&&◌}
use mathlib.Core.List.{List}
use Prim.Native.Nat.{ℕ, zero, suc, ◌+◌, ◌≤◌, ◌<◌, max}
use native.Mathlib.Numerals.{add-one}
use native.Mathlib.Omega.{arith}
use native.Mathlib.Decide.{ℕ_discrete}
use lib.ListN.{get_or, set, replicate, length-set, length-replicate}
use lib.Seq.{get_or-set_same, get_or-set_other}
use lib.Dec.{eqb, ltb}
use borrow.Author.Tests.{lt-ltb, le-ltb, ltb-true, eq-eqb, ne_eqb}
use Rattle.model.specs.Places.{pick, any, count, largest}
use Rattle.model.specs.Schedule.{left}
use Rattle.model.proofs.Bools.{cases, clash, le-or-lt, both, left-of, right_of, not-true}
use Rattle.model.proofs.Places.{any_elim, any_false, count-up}
use Rattle.model.proofs.Sums.{largest-most, largest-within, largest-is}
use Rattle.model.proofs.Tables.{zeros}
use Rattle.model.proofs.Turns.{count_past}
use Rattle.model.proofs.Finished.{left-later}
use Rattle.graph.specs.File.{records}
use Rattle.recorded.specs.Log.{is_start, is_stop, who, instant_at, starts, stops, InForm}
use Rattle.recorded.specs.Recorded.{last_instant, runs_in, ran_ticks, total, schedule_of}
use Rattle.recorded.proofs.Records.{Lasting, fine-at, running_elim, running_intro, start_of, stop-of, of-start, of-stop, start-then-stop, instants_rise, stopped}
use Rattle.recorded.proofs.Recording.{Runs, runs_elim, runs_intro, left-ran, runs-left}
use Rattle.formed.specs.Passing.{last_of, Lasted}

-- ---- the number

own-number : List ℕ → ℕ → ℕ → ℕ
own-number l v i = pick (eqb (who l i) v) (suc i) 0

number-low : (l : List ℕ) (v i : ℕ) → own-number l v i ≤ suc i
unfolding own-number
number-low l v i = go (eqb (who l i) v)
  where
    go : (b : Bool) → pick b (suc i) 0 ≤ suc i
    go true = omega arith
    go false = omega arith

pub last-low : (l : List ℕ) (v k : ℕ) → last_of l v k ≤ k
unfolding last_of
last-low l v k = largest-within (λ i. pick (eqb (who l i) v) (suc i) 0) k k (λ i h. unfold own-number in omega (arith, number-low l v i))

pub last-next : (l : List ℕ) (v k : ℕ) → last_of l v (suc k) ≡ pick (eqb v (who l k)) (suc k) (last_of l v k)
unfolding last_of largest
last-next l v k = go (ℕ_discrete v (who l k))
  where
    go : Dec (v ≡ who l k) → max (largest (λ i. pick (eqb (who l i) v) (suc i) 0) k) (pick (eqb (who l k) v) (suc k) 0)
        ≡ pick (eqb v (who l k)) (suc k) (largest (λ i. pick (eqb (who l i) v) (suc i) 0) k)
    go (yes q) = rw (eq-eqb (who l k) v (sym q), eq-eqb v (who l k) q) (unfold last_of in omega (arith, last-low l v k))
    go (no q) = rw (ne_eqb (who l k) v (λ e. q (sym e)), ne_eqb v (who l k) q) (omega arith)

pub lasts-none : (l : List ℕ) → Lasted l 0 (replicate 128 0)
unfolding last_of largest
lasts-none l = record { size = length-replicate {A = ℕ} 128 0; at = λ v h. zeros 128 v }

pub lasts-next : (l : List ℕ) (k : ℕ) (lasts : List ℕ) → who l k < 128 → Lasted l k lasts → Lasted l (k + 1) (set lasts (who l k) (k + 1))
lasts-next l k lasts b s = rw (add-one k) (record {
  size = length-set lasts (who l k) (suc k) ∙ s.size;
  at = λ v h. at v h (ℕ_discrete v (who l k)) ∙ sym (last-next l v k);
})
  where
    at : (v : ℕ) → v < 128 → Dec (v ≡ who l k) → get_or (set lasts (who l k) (suc k)) v 0 ≡ pick (eqb v (who l k)) (suc k) (last_of l v k)
    at v h (yes q) = rw (q, eq-eqb (who l k) (who l k) refl) (get_or-set_same lasts (who l k) (suc k) 0 (omega (arith, s.size)))
    at v h (no q) = rw (ne_eqb v (who l k) q) (get_or-set_other lasts (who l k) v (suc k) 0 q ∙ s.at v h)

-- below it no record of v is the last, and from it on v has none
pub later-record : (l : List ℕ) (v k : ℕ) → k < last_of l v (records l) → (j : ℕ) × (k ≤ j) × (j < records l) × (who l j ≡ v)
unfolding last_of
later-record l v k h = go (largest-is (λ i. pick (eqb (who l i) v) (suc i) 0) (records l))
  where
    by : (j : ℕ) → j < records l → largest (λ i. pick (eqb (who l i) v) (suc i) 0) (records l) ≡ pick (eqb (who l j) v) (suc j) 0 → Dec (who l j ≡ v)
        → (j : ℕ) × (k ≤ j) × (j < records l) × (who l j ≡ v)
    by j b e (yes q) = (j, omega (arith, rw (eq-eqb (who l j) v q) at e), b, q)
    by j b e (no q) = absurd (omega (arith, rw (ne_eqb (who l j) v q) at e))

    go : (largest (λ i. pick (eqb (who l i) v) (suc i) 0) (records l) ≡ 0)
        ⊎ ((j : ℕ) × (j < records l) × (largest (λ i. pick (eqb (who l i) v) (suc i) 0) (records l) ≡ pick (eqb (who l j) v) (suc j) 0))
        → (j : ℕ) × (k ≤ j) × (j < records l) × (who l j ≡ v)
    go (inl z) = absurd (omega arith)
    go (inr (j, b, e)) = by j b e (ℕ_discrete (who l j) v)

pub record-later : (l : List ℕ) (v j : ℕ) → j < records l → who l j ≡ v → j < last_of l v (records l)
unfolding last_of
record-later l v j h q = let x = largest-most (λ i. pick (eqb (who l i) v) (suc i) 0) (records l) j h in omega (arith, rw (eq-eqb (who l j) v q) at x)

-- ---- what it tells

-- the records of v below k are at or before the instant t, those from k on after it
pub record Parted (l : List ℕ) (v t k : ℕ) : Type 0 where
  pub before : (j : ℕ) → j < k → j < records l → stops l v j ≡ true → instant_at l j ≤ t
  pub after : (j : ℕ) → k ≤ j → j < records l → stops l v j ≡ true → t < instant_at l j

module _ {n : ℕ} {l : List ℕ} (f : InForm n l) (few : n ≤ 128) (v : ℕ) where
  -- a stop of v from k on, where v has a record from k on
  some-stop : (k j : ℕ) → k ≤ j → j < records l → who l j ≡ v → (i : ℕ) × (k ≤ i) × (i < records l) × (stops l v i ≡ true)
  some-stop k j a b q = go (fine-at f j b).known (cases (any (λ i. ltb j i && stops l v i) (records l)))
    where
      go : (is_start l j ≡ true) ⊎ (is_stop l j ≡ true) → (any (λ i. ltb j i && stops l v i) (records l) ≡ true) ⊎ (any (λ i. ltb j i && stops l v i) (records l) ≡ false)
          → (i : ℕ) × (k ≤ i) × (i < records l) × (stops l v i ≡ true)
      go (inr s) x = (j, a, b, of-stop l v j s q)
      go (inl s) (inl x) =
          let r = any_elim (λ i. ltb j i && stops l v i) (records l) x in
          (r.0, omega (arith, ltb-true j r.0 (left-of (ltb j r.0) _ r.2)), r.1, right_of (ltb j r.0) _ r.2)
      go (inl s) (inr x) = absurd (stopped f v (running_intro l (records l) v (record {
        from = j;
        within = b;
        is = of-start l v j s q;
        on = λ i c d. not-true (stops l v i) (λ y. clash (both (ltb j i) (stops l v i) (lt-ltb j i c) y) (any_false (λ i. ltb j i && stops l v i) (records l) i d x));
      })))

  -- it runs in the tick before a stop
  before-stop : (j : ℕ) → j < records l → stops l v j ≡ true → (t : ℕ) × (instant_at l j ≡ suc t) × (runs_in l t v ≡ true)
  before-stop j b s = by (instant_at l j) refl
    where
      w : (is_stop l j ≡ true) × (who l j ≡ v)
      w = stop-of l v j s

      r : Lasting (starts l v) (stops l v) j
      r = running_elim l j v (rw w.1 at ((fine-at f j b).stop w.0))

      u : (is_start l r.from ≡ true) × (who l r.from ≡ v)
      u = start_of l v r.from r.is

      rises : instant_at l r.from < instant_at l j
      rises = start-then-stop f (omega arith) r.from j r.within b u.0 w.0

      by : (t : ℕ) → instant_at l j ≡ t → (t : ℕ) × (instant_at l j ≡ suc t) × (runs_in l t v ≡ true)
      by zero e = absurd (omega (arith, rises))
      by (suc t) e = (
        t,
        e,
        runs_intro l t v (record {
          from = r.from;
          within = omega (arith, r.within);
          start = u.0;
          whose = u.1;
          begun = omega (arith, rises);
          on = λ i a c x. later i a c x (le-or-lt j i);
        }),
      )
        where
          later : (i : ℕ) → r.from < i → i < records l → stops l v i ≡ true → (j ≤ i) ⊎ (i < j) → t < instant_at l i
          later i a c x (inr y) = absurd (clash x (r.on i a y))
          later i a c x (inl y) = omega (arith, not_earlier (ℕ_discrete j i))
            where
              not_earlier : Dec (j ≡ i) → instant_at l j ≤ instant_at l i
              not_earlier (yes q) = rw q (omega arith)
              not_earlier (no q) = instants_rise f (omega arith) j i (omega arith) c

  module _ (t k : ℕ) (p : Parted l v t k) where
    -- v runs in a tick from t on, just where it has a record from k on
    runs_then : k < last_of l v (records l) → 0 < left (schedule_of l) t v
    runs_then h =
        let r = later-record l v k h in
        let s = some-stop k r.0 r.1 r.2 r.3 in
        let b = before-stop s.0 s.2 s.3 in
        let after = p.after s.0 s.1 s.2 s.3 in
        omega (arith, after, b.1, runs-left f b.0 v b.2, left-later (schedule_of l) t b.0 v (omega (arith, after, b.1)))

    -- and where it has none it runs in no tick from t on
    runs-no-more : last_of l v (records l) ≤ k → (i : ℕ) → t ≤ i → runs_in l i v ≡ false
    runs-no-more h i m = not-true (runs_in l i v) (λ e. wrong (runs_elim l i v e))
      where
        wrong : Runs l i v → ⊥
        wrong r = stopped f v (running_intro l (records l) v (record {
          from = r.from;
          within = r.within;
          is = of-start l v r.from r.start r.whose;
          on = λ j a b. not-true (stops l v j) (λ s. omega (arith, r.on j a b s, p.before j (omega (arith, record-later l v j b (stop-of l v j s).1)) b s));
        }))

    -- THEOREM. So it has ticks left just where it has a record from k on.
    pub left-later-record : ltb 0 (left (schedule_of l) t v) ≡ ltb k (last_of l v (records l))
    left-later-record = go (le-or-lt (last_of l v (records l)) k)
      where
        none : last_of l v (records l) ≤ k → left (schedule_of l) t v ≡ 0
        none h = unfold total ran_ticks in omega (arith, left-ran l t v, ends (le-or-lt t (last_instant l)))
          where
            ends : (t ≤ last_instant l) ⊎ (last_instant l < t) → count (λ i. runs_in l i v) (last_instant l) ≤ count (λ i. runs_in l i v) t
            ends (inl m) = omega (arith, count_past (λ i. runs_in l i v) t (last_instant l) m (λ i a b. runs-no-more h i a))
            ends (inr m) = count-up (λ i. runs_in l i v) (last_instant l) t (omega arith)

        go : (last_of l v (records l) ≤ k) ⊎ (k < last_of l v (records l)) → ltb 0 (left (schedule_of l) t v) ≡ ltb k (last_of l v (records l))
        go (inl h) = le-ltb 0 (left (schedule_of l) t v) (omega (arith, none h)) ∙ sym (le-ltb k (last_of l v (records l)) h)
        go (inr h) = lt-ltb 0 (left (schedule_of l) t v) (runs_then h) ∙ sym (lt-ltb k (last_of l v (records l)) h)
