-- The schedule that a log in form records: who runs when, and what is left.
--
-- Stops come before starts at an instant. So a vertex that runs after a start record runs in the tick from that record's instant on: a later
-- stop is at a later instant. Where no record is at an instant, the same vertices run in the tick before it and in the tick after it.
use mathlib.Core.Path.{◌≡◌, refl, sym, ◌∙◌}
use mathlib.Core.Logic.{◌⊎◌, inl, inr, ⊎_elim, ◌≢◌}
use mathlib.Core.Bool.{true, false, ◌&&◌}
use mathlib.Core.List.{List}
use Prim.Native.Nat.{ℕ, zero, suc, ◌-◌, ◌≤◌, ◌<◌}
use native.Mathlib.Omega.{arith}
use native.Mathlib.Decide.{ℕ_discrete}
use lib.Dec.{eqb, leb}
use borrow.Author.Tests.{ne_eqb, le-leb, leb-true}
use Rattle.model.specs.Places.{bit, count}
use Rattle.model.specs.Schedule.{left}
use Rattle.model.proofs.Bools.{cases, clash, le-or-lt, both, left-of, right_of, not-true}
use Rattle.model.proofs.Places.{count-up, count-there}
use Rattle.model.proofs.Sums.{largest-most}
use Rattle.model.proofs.Turns.{count_past}
use Rattle.graph.specs.File.{records}
use Rattle.recorded.specs.Log.{is_start, who, instant_at, starts, stops, running, InForm}
use Rattle.recorded.specs.Recorded.{last_instant, started_by, stopped_by, runs_in, ran_ticks, total, schedule_of}
use Rattle.recorded.proofs.Records.{Lasting, lasts_elim, lasts_intro, running_elim, running_intro, start_of, stop-of, of-start, fine-at, instants_rise, start-then-stop, stopped}

-- v runs in the tick t: the start that it runs from
pub record Runs (l : List ℕ) (t v : ℕ) : Type 0 where
  pub from : ℕ
  pub within : from < records l
  pub start : is_start l from ≡ true
  pub whose : who l from ≡ v
  pub begun : instant_at l from ≤ t
  pub on : (j : ℕ) → from < j → j < records l → stops l v j ≡ true → t < instant_at l j

pub runs_elim : (l : List ℕ) (t v : ℕ) → runs_in l t v ≡ true → Runs l t v
unfolding runs_in started_by stopped_by
runs_elim l t v e =
    let r = lasts_elim (started_by l v t) (stopped_by l v t) (records l) e in
    let s = start_of l v r.from (left-of (starts l v r.from) _ r.is) in
    record {
      from = r.from;
      within = r.within;
      start = s.0;
      whose = s.1;
      begun = leb-true (instant_at l r.from) t (right_of (starts l v r.from) _ r.is);
      on = λ j a b x. ⊎_elim (λ (h : instant_at l j ≤ t). absurd (clash (both (stops l v j) (leb (instant_at l j) t) x (le-leb (instant_at l j) t h)) (r.on j a b)))
          (λ h. h) (le-or-lt (instant_at l j) t);
    }

pub runs_intro : (l : List ℕ) (t v : ℕ) → Runs l t v → runs_in l t v ≡ true
unfolding runs_in started_by stopped_by
runs_intro l t v r =
    lasts_intro (started_by l v t) (stopped_by l v t) (records l) (record {
      from = r.from;
      within = r.within;
      is = both (starts l v r.from) (leb (instant_at l r.from) t) (of-start l v r.from r.start r.whose) (le-leb (instant_at l r.from) t r.begun);
      on = λ j a b. not-true (stops l v j && leb (instant_at l j) t)
          (λ x. omega (arith, r.on j a b (left-of (stops l v j) _ x), leb-true (instant_at l j) t (right_of (stops l v j) _ x)));
    })

pub last-most : (l : List ℕ) (k : ℕ) → k < records l → instant_at l k ≤ last_instant l
unfolding last_instant
last-most l k h = largest-most (instant_at l) (records l) k h

-- where no record is at the next instant, the same run in the next tick
pub same_runs : (l : List ℕ) (t : ℕ) → ((k : ℕ) → k < records l → instant_at l k ≡ suc t → ⊥) → (v : ℕ) → runs_in l (suc t) v ≡ runs_in l t v
same_runs l t quiet v = same (cases (runs_in l (suc t) v)) (cases (runs_in l t v))
  where
    back : runs_in l (suc t) v ≡ true → runs_in l t v ≡ true
    back e =
        let r = runs_elim l (suc t) v e in
        runs_intro l t v (record {
          from = r.from;
          within = r.within;
          start = r.start;
          whose = r.whose;
          begun = let x : instant_at l r.from ≢ suc t = quiet r.from r.within in omega (arith, r.begun);
          on = λ j a b s. omega (arith, r.on j a b s);
        })

    forth : runs_in l t v ≡ true → runs_in l (suc t) v ≡ true
    forth e =
        let r = runs_elim l t v e in
        runs_intro l (suc t) v (record {
          from = r.from;
          within = r.within;
          start = r.start;
          whose = r.whose;
          begun = omega (arith, r.begun);
          on = λ j a b s. let x : instant_at l j ≢ suc t = quiet j b in omega (arith, r.on j a b s);
        })

    same : (runs_in l (suc t) v ≡ true) ⊎ (runs_in l (suc t) v ≡ false) → (runs_in l t v ≡ true) ⊎ (runs_in l t v ≡ false) → runs_in l (suc t) v ≡ runs_in l t v
    same (inl a) (inl b) = a ∙ sym b
    same (inr a) (inr b) = a ∙ sym b
    same (inl a) (inr b) = absurd (clash (back a) b)
    same (inr a) (inl b) = absurd (clash (forth b) a)

-- ---- what is left

pub left-ran : (l : List ℕ) (t v : ℕ) → left (schedule_of l) t v ≡ total l v - ran_ticks l v t
unfolding left schedule_of ran_ticks count
left-ran l zero v = omega arith
left-ran l (suc t) v = omega (arith, left-ran l t v)

module _ {n : ℕ} {l : List ℕ} (f : InForm n l) where
  -- only vertices of the graph run
  pub runs-known : (t v : ℕ) → runs_in l t v ≡ true → v < n
  runs-known t v e = let r = runs_elim l t v e in omega (arith, (fine-at f r.from r.within).vertex, r.whose)

  -- from the last instant on nothing runs
  pub none_after : (t v : ℕ) → last_instant l ≤ t → runs_in l t v ≡ false
  none_after t v h = not-true (runs_in l t v) (λ e. over (runs_elim l t v e))
    where
      over : Runs l t v → ⊥
      over r = stopped f v (running_intro l (records l) v (record {
        from = r.from;
        within = r.within;
        is = of-start l v r.from r.start r.whose;
        on = λ j a b. not-true (stops l v j) (λ s. omega (arith, r.on j a b s, last-most l j b));
      }))

  pub runs-before : (t v : ℕ) → runs_in l t v ≡ true → t < last_instant l
  runs-before t v e = ⊎_elim (λ (h : last_instant l ≤ t). absurd (clash e (none_after t v h))) (λ h. h) (le-or-lt (last_instant l) t)

  pub ran-all : (t v : ℕ) → last_instant l ≤ t → ran_ticks l v t ≡ total l v
  unfolding total ran_ticks
  ran-all t v h = count_past (λ i. runs_in l i v) (last_instant l) t h (λ i m b. none_after i v m)

  -- from the last instant on nothing is left
  pub none_left : (t v : ℕ) → last_instant l ≤ t → left (schedule_of l) t v ≡ 0
  none_left t v h = omega (arith, left-ran l t v, ran-all t v h)

  -- what runs has ticks left
  pub runs-left : (t v : ℕ) → runs_in l t v ≡ true → 0 < left (schedule_of l) t v
  unfolding total ran_ticks
  runs-left t v e =
      omega (arith, left-ran l t v, count-there (λ i. runs_in l i v) t e, count-up (λ i. runs_in l i v) (suc t) (last_instant l) (runs-before t v e))

  -- where no record is at the next instant, the same vertices have something left there
  pub same-zeros : (t : ℕ) → ((k : ℕ) → k < records l → instant_at l k ≡ suc t → ⊥)
      → (v : ℕ) → eqb (left (schedule_of l) (suc t) v) 0 ≡ eqb (left (schedule_of l) t v) 0
  unfolding left schedule_of
  same-zeros t quiet v = go (cases (runs_in l t v))
    where
      go : (runs_in l t v ≡ true) ⊎ (runs_in l t v ≡ false) → eqb (left (schedule_of l) t v - bit (runs_in l t v)) 0 ≡ eqb (left (schedule_of l) t v) 0
      go (inl e) =
          let a : 0 < left (schedule_of l) t v = runs-left t v e in
          let b : 0 < left (schedule_of l) t v - bit (runs_in l t v) = runs-left (suc t) v (same_runs l t quiet v ∙ e) in
          ne_eqb (left (schedule_of l) t v - bit (runs_in l t v)) 0 (λ z. omega arith) ∙ sym (ne_eqb (left (schedule_of l) t v) 0 (λ z. omega arith))
      go (inr e) = let z : left (schedule_of l) t v - 0 ≡ left (schedule_of l) t v = omega arith in rw (e, z) refl

  module _ (few : n ≤ 256) where
    -- after a start record, those that run are those that run in the tick from its instant on
    pub running-runs : (k u : ℕ) → k < records l → is_start l k ≡ true → running l (suc k) u ≡ true → runs_in l (instant_at l k) u ≡ true
    running-runs k u h s e = on (running_elim l (suc k) u e)
      where
        on : Lasting (starts l u) (stops l u) (suc k) → runs_in l (instant_at l k) u ≡ true
        on r =
            let w = start_of l u r.from r.is in
            runs_intro l (instant_at l k) u (record {
              from = r.from;
              within = omega (arith, r.within);
              start = w.0;
              whose = w.1;
              begun = soon (ℕ_discrete r.from k);
              on = λ j a b x. later j a b x (le-or-lt j k);
            })
          where
            soon : Dec (r.from ≡ k) → instant_at l r.from ≤ instant_at l k
            soon (yes q) = rw q (omega arith)
            soon (no q) = instants_rise f few r.from k (omega (arith, r.within)) h

            later : (j : ℕ) → r.from < j → j < records l → stops l u j ≡ true → (j ≤ k) ⊎ (k < j) → instant_at l k < instant_at l j
            later j a b x (inl y) = absurd (clash x (r.on j a (omega arith)))
            later j a b x (inr y) = start-then-stop f few k j y b s (stop-of l u j x).0

    pub start-runs : (k : ℕ) → k < records l → is_start l k ≡ true → runs_in l (instant_at l k) (who l k) ≡ true
    start-runs k h s = running-runs k (who l k) h s (running_intro l (suc k) (who l k) (record {
      from = k;
      within = omega arith;
      is = of-start l (who l k) k s refl;
      on = λ j a b. absurd (omega arith);
    }))
