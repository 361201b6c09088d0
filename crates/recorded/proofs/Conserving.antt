-- THE THEOREM. A log in form passes 19 to 22 exactly where its schedule is work conserving and its times are at most the WCETs.
--
-- 19 looks at starts alone: a vertex that runs in a tick began at some start, and what was finished there is finished later too. 20 looks at
-- starts alone: the number of a kind that run rises at starts of that kind alone, and a tick has those that run after all records up to its
-- instant. 22 looks at each instant before the last: there the kind's ready vertices all run, or all its cores do; from the last instant on
-- nothing is left, so that nothing is ready.
use mathlib.Core.Path.{◌≡◌, refl, ap, ◌∙◌}
use mathlib.Core.Logic.{◌⊎◌, inl, inr, ⊎_elim, ◌≢◌}
use mathlib.Core.Bool.{Bool, true, false, not, ◌&&◌}
use mathlib.Core.List.{List}
use Prim.Native.Nat.{ℕ, zero, suc, ◌≤◌, ◌<◌, min}
use native.Mathlib.Omega.{arith}
use native.Mathlib.Decide.{ℕ_discrete}
use lib.Dec.{eqb, ltb}
use borrow.Author.Tests.{le-ltb, ltb-true, ltb-false, eq-eqb, eqb-true}
use Rattle.model.specs.Places.{any, first, count, Tells}
use Rattle.model.specs.Graph.{Graph, Edge, WellFormed}
use Rattle.model.specs.Cycle.{Acyclic}
use Rattle.model.specs.Schedule.{Schedule, left, Finished, Ready, Times, WorkConserving}
use Rattle.model.specs.ListSchedule.{finished, ready}
use Rattle.model.proofs.Bools.{cases, clash, le-or-lt, both, left-of, right_of, not-true, true-not, not-is-true}
use Rattle.model.proofs.Places.{any_intro, any_elim, any_none, count-sub, count_less, count_none, first-le, first_below, first-here}
use Rattle.model.proofs.Finished.{left-ready, ready-left, fin_later}
use Rattle.model.proofs.Tests.{finished-tells, ready-tells}
use Rattle.graph.specs.File.{records}
use Rattle.recorded.specs.Log.{is_start, is_stop, who, instant_at, starts, stops, running, InForm}
use Rattle.recorded.specs.Recorded.{last_instant, runs_in, total, schedule_of}
use Rattle.recorded.specs.Rules.{rule19, rule20, rule21, rule22, waiting, Passes}
use Rattle.recorded.proofs.Records.{Lasting, running_elim, running_intro, start_of, of-start, not-both, fine-at, instants_rise}
use Rattle.recorded.proofs.Recording.{Runs, runs_elim, runs-left, none_left, running-runs, start-runs}

-- v is of kind s and runs after the first k records; in the tick t
abbrev running_of : Graph → List ℕ → ℕ → ℕ → ℕ → Bool
running_of G l k s u = running l k u && eqb (G.kind u) s

abbrev runs_of : Graph → List ℕ → ℕ → ℕ → ℕ → Bool
runs_of G l t s u = runs_in l t u && eqb (G.kind u) s

-- the first record after the instant t, or as many as there are
up_to : List ℕ → ℕ → ℕ
up_to l t = first (λ k. ltb t (instant_at l k)) (records l)

module _ {G : Graph} (W : WellFormed G) (A : Acyclic G) (few : G.n ≤ 256) {l : List ℕ} (f : InForm G.n l) where
  abbrev S : Schedule
  S = schedule_of l

  -- ---- from the rules to the schedule

  module _ (p : Passes G l) where
    -- what starts has its predecessors finished
    started-after : (k : ℕ) → k < records l → is_start l k ≡ true → (u : ℕ) → Edge G u (who l k) → Finished G (left S (instant_at l k)) u
    unfolding rule19
    started-after k h s u e = (finished-tells W (left S (instant_at l k)) A).sound u (W.from u (who l k) e) (go (cases (finished G (left S (instant_at l k)) u)))
      where
        go : (finished G (left S (instant_at l k)) u ≡ true) ⊎ (finished G (left S (instant_at l k)) u ≡ false) → finished G (left S (instant_at l k)) u ≡ true
        go (inl x) = x
        go (inr x) = absurd (clash
            (both (is_start l k) (any (λ u. G.edge u (who l k) && not (finished G (left S (instant_at l k)) u)) G.n) s
            (any_intro (λ u. G.edge u (who l k) && not (finished G (left S (instant_at l k)) u)) G.n u (W.from u (who l k) e)
            (both (G.edge u (who l k)) (not (finished G (left S (instant_at l k)) u)) e (true-not (finished G (left S (instant_at l k)) u) x))))
            (p.no_19 k h))

    runs_ready : (t v : ℕ) → runs_in l t v ≡ true → Ready G (left S t) v
    runs_ready t v x = go (runs_elim l t v x)
      where
        go : Runs l t v → Ready G (left S t) v
        go r = left-ready (runs-left f t v x)
            (λ u e. fin_later S (instant_at l r.from) t r.begun (started-after r.from r.within r.start u (rw r.whose e)))

    -- no more of a kind run after any number of records than it has cores
    within-cores : (s k : ℕ) → k ≤ records l → count (running_of G l k s) G.n ≤ G.cores s
    unfolding rule20
    within-cores s zero h =
        omega (
          arith,
          count_none (running_of G l 0 s) G.n
              (λ u m. not-true (running_of G l 0 s u) (λ x. omega (arith, (running_elim l 0 u (left-of (running l 0 u) _ x)).within))),
        )
    within-cores s (suc k) h = go (fine-at f k h).known (ℕ_discrete (G.kind (who l k)) s) (within-cores s k (omega arith))
      where
        -- those that record k does not start ran before it
        before : (u : ℕ) → (starts l u k ≡ true → ⊥) → running l (suc k) u ≡ true → running l k u ≡ true
        before u no_start x = on (running_elim l (suc k) u x)
          where
            on : Lasting (starts l u) (stops l u) (suc k) → running l k u ≡ true
            on r = let y : r.from ≢ k = λ q. no_start (rw q at r.is) in
                running_intro l k u (record { from = r.from; within = omega (arith, r.within); is = r.is; on = λ j a b. r.on j a (omega arith) })

        fewer : ((u : ℕ) → G.kind u ≡ s → starts l u k ≡ true → ⊥) → count (running_of G l (suc k) s) G.n ≤ count (running_of G l k s) G.n
        fewer none = count-sub (running_of G l (suc k) s) (running_of G l k s) G.n
            (λ u m x. both (running l k u) (eqb (G.kind u) s)
            (before u (none u (eqb-true (G.kind u) s (right_of (running l (suc k) u) _ x))) (left-of (running l (suc k) u) _ x)) (right_of (running l (suc k) u) _ x))

        go : (is_start l k ≡ true) ⊎ (is_stop l k ≡ true) → Dec (G.kind (who l k) ≡ s) → count (running_of G l k s) G.n ≤ G.cores s
            → count (running_of G l (suc k) s) G.n ≤ G.cores s
        go (inr x) d ih = omega (arith, fewer (λ u e y. not-both l k (start_of l u k y).0 x))
        go (inl x) (no q) ih = omega (arith, fewer (λ u e y. q (ap (λ (v : ℕ). G.kind v) (start_of l u k y).1 ∙ e)))
        go (inl x) (yes q) ih = rw (← q) (ltb-false (G.cores (G.kind (who l k))) (count (running_of G l (suc k) (G.kind (who l k))) G.n)
            (not-true (ltb (G.cores (G.kind (who l k))) (count (running_of G l (suc k) (G.kind (who l k))) G.n))
            (λ y. clash (both (is_start l k) (ltb (G.cores (G.kind (who l k))) (count (running_of G l (suc k) (G.kind (who l k))) G.n)) x y) (p.no_20 k h))))

    -- those that run in a tick run after the records up to its instant
    runs-running : (t u : ℕ) → runs_in l t u ≡ true → running l (up_to l t) u ≡ true
    unfolding up_to
    runs-running t u x = go (runs_elim l t u x)
      where
        low : (k : ℕ) → k < first (λ k. ltb t (instant_at l k)) (records l) → instant_at l k ≤ t
        low k h = ltb-false t (instant_at l k) (first_below (λ k. ltb t (instant_at l k)) (records l) k h)

        high : (k : ℕ) → k < records l → first (λ k. ltb t (instant_at l k)) (records l) ≤ k → t < instant_at l k
        high k h m =
            let b : first (λ k. ltb t (instant_at l k)) (records l) < records l = omega arith in
            let a : t < instant_at l (first (λ k. ltb t (instant_at l k)) (records l)) = ltb-true t _ (first-here (λ k. ltb t (instant_at l k)) (records l) b) in
            at (ℕ_discrete (first (λ k. ltb t (instant_at l k)) (records l)) k) a
          where
            at : Dec (first (λ k. ltb t (instant_at l k)) (records l) ≡ k) → t < instant_at l (first (λ k. ltb t (instant_at l k)) (records l)) → t < instant_at l k
            at (yes q) a = rw (← q) a
            at (no q) a = omega (arith, instants_rise f few (first (λ k. ltb t (instant_at l k)) (records l)) k (omega arith) h)

        go : Runs l t u → running l (first (λ k. ltb t (instant_at l k)) (records l)) u ≡ true
        go r = running_intro l (first (λ k. ltb t (instant_at l k)) (records l)) u (record {
          from = r.from;
          within = ⊎_elim (λ (h : first (λ k. ltb t (instant_at l k)) (records l) ≤ r.from). absurd (omega (arith, high r.from r.within h, r.begun))) (λ h. h)
              (le-or-lt (first (λ k. ltb t (instant_at l k)) (records l)) r.from);
          is = of-start l u r.from r.start r.whose;
          on = λ j a b. not-true (stops l u j)
              (λ y. omega (arith, r.on j a (omega (arith, first-le (λ k. ltb t (instant_at l k)) (records l))) y, low j b));
        })

    few-run : (t s : ℕ) → count (runs_of G l t s) G.n ≤ G.cores s
    unfolding up_to
    few-run t s =
        omega (
          arith,
          within-cores s (up_to l t) (first-le (λ k. ltb t (instant_at l k)) (records l)),
          count-sub (runs_of G l t s) (running_of G l (up_to l t) s) G.n
              (λ u m x. both (running l (up_to l t) u) (eqb (G.kind u) s) (runs-running t u (left-of (runs_in l t u) _ x)) (right_of (runs_in l t u) _ x)),
        )

    -- a ready vertex that does not run has all cores of its kind busy
    all-busy : (t v : ℕ) → v < G.n → Ready G (left S t) v → runs_in l t v ≡ false → G.cores (G.kind v) ≤ count (runs_of G l t (G.kind v)) G.n
    unfolding rule22 waiting
    all-busy t v h r x = ltb-false (count (runs_of G l t (G.kind v)) G.n) (G.cores (G.kind v))
        (not-true (ltb (count (runs_of G l t (G.kind v)) G.n) (G.cores (G.kind v)))
        (λ y. clash
        (any_intro (λ v. waiting G l t v && ltb (count (runs_of G l t (G.kind v)) G.n) (G.cores (G.kind v))) G.n v h
        (both (waiting G l t v) (ltb (count (runs_of G l t (G.kind v)) G.n) (G.cores (G.kind v)))
        (both (ready G (left S t) v) (not (runs_in l t v)) ((ready-tells W (left S t) A).complete v h r) (true-not (runs_in l t v) x)) y))
        (p.no_22 t soon)))
      where
        soon : t < last_instant l
        soon = ⊎_elim (λ (m : last_instant l ≤ t). absurd (omega (arith, ready-left r, none_left f t v m))) (λ m. m) (le-or-lt (last_instant l) t)

    busy : (t s : ℕ) → (test : ℕ → Bool) → Tells G.n (Ready G (left S t)) test
        → count (runs_of G l t s) G.n ≡ min (G.cores s) (count (λ v. test v && eqb (G.kind v) s) G.n)
    busy t s test T = go (le-or-lt (count (λ v. test v && eqb (G.kind v) s) G.n) (count (runs_of G l t s) G.n))
      where
        no_more : count (runs_of G l t s) G.n ≤ count (λ v. test v && eqb (G.kind v) s) G.n
        no_more = count-sub (runs_of G l t s) (λ v. test v && eqb (G.kind v) s) G.n
            (λ u m x. both (test u) (eqb (G.kind u) s) (T.complete u m (runs_ready t u (left-of (runs_in l t u) _ x))) (right_of (runs_in l t u) _ x))

        -- where fewer run than are ready, one of these waits
        full : G.cores s ≤ count (runs_of G l t s) G.n ⊎ ((u : ℕ) → u < G.n → test u && eqb (G.kind u) s ≡ true → runs_of G l t s u ≡ true)
        full = ⊎_elim
            (λ (h : G.cores s ≤ count (runs_of G l t s) G.n). inl h)
            (λ (h : count (runs_of G l t s) G.n < G.cores s).
            inr (λ u m x. both (runs_in l t u) (eqb (G.kind u) s) (each h u m x (cases (runs_in l t u))) (right_of (test u) _ x)))
            (le-or-lt (G.cores s) (count (runs_of G l t s) G.n))
          where
            each : count (runs_of G l t s) G.n < G.cores s → (u : ℕ) → u < G.n → test u && eqb (G.kind u) s ≡ true
                → (runs_in l t u ≡ true) ⊎ (runs_in l t u ≡ false) → runs_in l t u ≡ true
            each h u m x (inl y) = y
            each h u m x (inr y) =
                let q : G.kind u ≡ s = eqb-true (G.kind u) s (right_of (test u) _ x) in
                absurd (omega (arith, rw q at (all-busy t u m (T.sound u m (left-of (test u) _ x)) y)))

        go : count (λ v. test v && eqb (G.kind v) s) G.n ≤ count (runs_of G l t s) G.n
            ⊎ (count (runs_of G l t s) G.n < count (λ v. test v && eqb (G.kind v) s) G.n)
            → count (runs_of G l t s) G.n ≡ min (G.cores s) (count (λ v. test v && eqb (G.kind v) s) G.n)
        go (inl h) = omega (arith, few-run t s, no_more)
        go (inr h) = ⊎_elim
            (λ (m : G.cores s ≤ count (runs_of G l t s) G.n). omega (arith, few-run t s))
            (λ sub. absurd (omega (arith, count-sub (λ v. test v && eqb (G.kind v) s) (runs_of G l t s) G.n sub)))
            full

    -- THEOREM. A log in form that passes 19 to 22 records a work-conserving schedule, with times at most the WCETs.
    pub passes_conserving : WorkConserving G (schedule_of l)
    unfolding schedule_of
    passes_conserving = record { runs_ready = λ t v h x. runs_ready t v x; busy = λ t s k test T. busy t s test T }

    pub passes_times : Times G (schedule_of l).time
    unfolding schedule_of rule21
    passes_times v h = ltb-false (G.wcet v) (total l v) (p.no_21 v h)

  -- ---- from the schedule to the rules

  module _ (C : WorkConserving G (schedule_of l)) (E : Times G (schedule_of l).time) where
    no_19 : (k : ℕ) → k < records l → rule19 G l k ≡ false
    unfolding rule19 schedule_of
    no_19 k h = not-true (rule19 G l k) (λ x. wrong x)
      where
        wrong : rule19 G l k ≡ true → ⊥
        wrong x =
            let s = left-of (is_start l k) (any (λ u. G.edge u (who l k) && not (finished G (left S (instant_at l k)) u)) G.n) x in
            let r = any_elim (λ u. G.edge u (who l k) && not (finished G (left S (instant_at l k)) u)) G.n (right_of (is_start l k) _ x) in
            let u = r.0 in
            let q = C.runs_ready (instant_at l k) (who l k) (fine-at f k h).vertex (start-runs f few k h s) in
            clash ((finished-tells W (left S (instant_at l k)) A).complete u r.1 (q.before u (left-of (G.edge u (who l k)) _ r.2)))
            (not-is-true (finished G (left S (instant_at l k)) u) (right_of (G.edge u (who l k)) _ r.2))

    test-counts : (t s : ℕ) → s < G.kinds → count (runs_of G l t s) G.n ≡ min (G.cores s) (count (λ v. ready G (left S t) v && eqb (G.kind v) s) G.n)
    unfolding schedule_of
    test-counts t s h = C.busy t s h (ready G (left S t)) (ready-tells W (left S t) A)

    no_20 : (k : ℕ) → k < records l → rule20 G l k ≡ false
    unfolding rule20
    no_20 k h = not-true (rule20 G l k) (λ x. wrong (left-of (is_start l k) _ x)
        (ltb-true (G.cores (G.kind (who l k))) (count (running_of G l (suc k) (G.kind (who l k))) G.n) (right_of (is_start l k) _ x)))
      where
        wrong : is_start l k ≡ true → G.cores (G.kind (who l k)) < count (running_of G l (suc k) (G.kind (who l k))) G.n → ⊥
        wrong s m =
            omega (
              arith,
              m,
              test-counts (instant_at l k) (G.kind (who l k)) (W.kind_known (who l k) (fine-at f k h).vertex),
              count-sub (running_of G l (suc k) (G.kind (who l k))) (runs_of G l (instant_at l k) (G.kind (who l k))) G.n
                  (λ u b x. both (runs_in l (instant_at l k) u) (eqb (G.kind u) (G.kind (who l k)))
                  (running-runs f few k u h s (left-of (running l (suc k) u) _ x)) (right_of (running l (suc k) u) _ x)),
            )

    no_21 : (v : ℕ) → v < G.n → rule21 G l v ≡ false
    unfolding rule21 schedule_of
    no_21 v h = le-ltb (G.wcet v) (total l v) (E v h)

    -- at no instant at all
    pub never_22 : (t : ℕ) → rule22 G l t ≡ false
    unfolding rule22 waiting schedule_of
    never_22 t = any_none (λ v. waiting G l t v && ltb (count (runs_of G l t (G.kind v)) G.n) (G.cores (G.kind v))) G.n (λ v h. not-true _ (λ x. wrong v h x))
      where
        wrong : (v : ℕ) → v < G.n → waiting G l t v && ltb (count (runs_of G l t (G.kind v)) G.n) (G.cores (G.kind v)) ≡ true → ⊥
        wrong v h x =
            let y = left-of (waiting G l t v) (ltb (count (runs_of G l t (G.kind v)) G.n) (G.cores (G.kind v))) x in
            let r = left-of (ready G (left S t) v) (not (runs_in l t v)) y in
            let z = not-is-true (runs_in l t v) (right_of (ready G (left S t) v) (not (runs_in l t v)) y) in
            omega (
              arith,
              ltb-true (count (runs_of G l t (G.kind v)) G.n) (G.cores (G.kind v)) (right_of (waiting G l t v) _ x),
              test-counts t (G.kind v) (W.kind_known v h),
              count_less (runs_of G l t (G.kind v)) (λ u. ready G (left S t) u && eqb (G.kind u) (G.kind v)) v G.n h
                  (λ u b q. both (ready G (left S t) u) (eqb (G.kind u) (G.kind v))
                  ((ready-tells W (left S t) A).complete u b (C.runs_ready t u b (left-of (runs_in l t u) _ q))) (right_of (runs_in l t u) _ q))
                  (both (ready G (left S t) v) (eqb (G.kind v) (G.kind v)) r (eq-eqb (G.kind v) (G.kind v) refl))
                  (not-true (runs_of G l t (G.kind v) v) (λ q. clash (left-of (runs_in l t v) _ q) z)),
            )

    -- THEOREM. A log in form whose schedule is work conserving, with times at most the WCETs, passes 19 to 22.
    pub conserving_passes : Passes G l
    conserving_passes = record { no_19 = no_19; no_20 = no_20; no_21 = no_21; no_22 = λ t h. never_22 t }
