-- THEOREM. Where a log in form fits its cores, the list names cores as it should.
--
-- A vertex that has a core before a start at instant t runs in the tick t: it runs then and does not stop at t any more, since the stops of t
-- are behind, or it runs on and starts at t. So with the one that starts no more have a core of its kind than run in the tick t, and these are
-- at most as many as there are cores. Each has another core: where all cores were taken, as many vertices as cores would have one, and with the
-- one that starts one more. So the lowest free core is one that there is.
use mathlib.Core.Path.{◌≡◌, refl, sym, ap, ◌∙◌}
use mathlib.Core.Logic.{◌⊎◌, inl, inr, ⊎_elim, ◌≢◌}
use mathlib.Core.Bool.{Bool, true, false, not, ◌&&◌, ◌||◌, and-false}
use mathlib.Core.List.{List}
use Prim.Native.Nat.{ℕ, zero, suc, ◌≤◌, ◌<◌}
use native.Mathlib.Omega.{arith}
use native.Mathlib.Decide.{ℕ_discrete}
use lib.ListN.{length, get_or}
use lib.Dec.{eqb, ltb, leb}
use borrow.Author.Tests.{ltb-true, ltb-false, eq-eqb, ne_eqb, eqb-true, le-leb, leb-true}
use Rattle.model.specs.Places.{pick, any, first, largest}
use Rattle.model.proofs.Bools.{cases, clash, both, left-of, right_of, not-true, true-not, not-is-true, not-false, not-second, or_left, or_right, or_cases, le-or-lt}
use Rattle.model.proofs.Places.{all-or-some, any_intro, any_elim, any_none, count_less, count-all, first-le, first_below, first-here, first_found}
use Rattle.model.proofs.Sums.{count-pairs, largest-most, largest-is}
use Rattle.model.proofs.Tables.{table-length, table_at}
use Rattle.graph.specs.File.{records}
use Rattle.recorded.specs.Log.{is_start, is_stop, who, instant_at, starts, stops, running, InForm}
use Rattle.recorded.specs.Recorded.{started_by, runs_in}
use Rattle.recorded.proofs.Records.{fine-at, instants_rise, start-then-stop, not-both, running_elim, start_of, stop-of, of-start, of-stop}
use Rattle.recorded.proofs.Recording.{Runs, runs_elim, runs_intro}
use Rattle.recorded.proofs.Prefix.{Behind, runs_prefix}
use Rattle.formed.specs.Passing.{clock_at}
use Rattle.formed.proofs.Passing.{other, own}
use Rattle.formed.proofs.Clocks.{clock_next-is, clock_up}
use Rattle.lanes.specs.Lanes.{starts_later, runs_on_of, has_core, taken, core_of, lanes_of, last_that, core_in, Fits, Named}
use Rattle.lanes.proofs.Passing.{later_elim, runs-on-here}

-- ---- the last place

pub record Last (p : ℕ → Bool) (m i : ℕ) : Type 0 where
  pub within : i < m
  pub there : p i ≡ true
  pub after : (j : ℕ) → i < j → j < m → p j ≡ false

pub last-is : (p : ℕ → Bool) (m k : ℕ) → k < m → p k ≡ true → Last p m (last_that p m)
unfolding last_that
last-is p m k h e = go (largest-is (λ i. pick (p i) i 0) m)
  where
    at : (i : ℕ) → p i ≡ true → i < m → i ≤ largest (λ i. pick (p i) i 0) m
    at i x b = let q : pick (p i) i 0 ≡ i = rw x refl in omega (arith, largest-most (λ i. pick (p i) i 0) m i b)

    none_after : (j : ℕ) → largest (λ i. pick (p i) i 0) m < j → j < m → p j ≡ false
    none_after j a b = not-true (p j) (λ x. omega (arith, at j x b))

    zeroth : largest (λ i. pick (p i) i 0) m ≡ 0 → Last p m (largest (λ i. pick (p i) i 0) m)
    zeroth z =
        let q : k ≡ largest (λ i. pick (p i) i 0) m = omega (arith, at k e h) in
        record { within = omega arith; there = rw (← q) e; after = none_after }

    go : (largest (λ i. pick (p i) i 0) m ≡ 0) ⊎ ((v : ℕ) × (v < m) × (largest (λ i. pick (p i) i 0) m ≡ pick (p v) v 0)) → Last p m (largest (λ i. pick (p i) i 0) m)
    go (inl z) = zeroth z
    go (inr r) = by (cases (p r.0))
      where
        by : (p r.0 ≡ true) ⊎ (p r.0 ≡ false) → Last p m (largest (λ i. pick (p i) i 0) m)
        by (inl x) =
            let q : largest (λ i. pick (p i) i 0) m ≡ r.0 = r.2 ∙ rw x refl in
            record { within = omega (arith, r.1); there = rw q x; after = none_after }
        by (inr x) = zeroth (r.2 ∙ rw x refl)

-- a vertex that runs in a tick has a last start
pub last-start : (l : List ℕ) (t v : ℕ) → runs_in l t v ≡ true → Last (started_by l v t) (records l) (last_that (started_by l v t) (records l))
unfolding started_by
last-start l t v e =
    let r = runs_elim l t v e in
    last-is (started_by l v t) (records l) r.from r.within
    (both (starts l v r.from) (leb (instant_at l r.from) t) (of-start l v r.from r.start r.whose) (le-leb (instant_at l r.from) t r.begun))

pub started_whose : (l : List ℕ) (t v i : ℕ) → started_by l v t i ≡ true → who l i ≡ v
unfolding started_by
started_whose l t v i e = (start_of l v i (left-of (starts l v i) _ e)).1

-- ---- who has a core, record by record

pub has-own : (l : List ℕ) (k : ℕ) → has_core l (suc k) (who l k) ≡ is_start l k || runs_on_of l k
unfolding has_core
has-own l k = rw (eq-eqb (who l k) (who l k) refl) refl

pub has_other : (l : List ℕ) (k v : ℕ) → v ≢ who l k → has_core l (suc k) v ≡ has_core l k v
unfolding has_core
has_other l k v x = rw (ne_eqb v (who l k) x) refl

module _ {n : ℕ} {l : List ℕ} (f : InForm n l) (few : n ≤ 128) where
  few_vertices : n ≤ 256
  few_vertices = omega arith

  -- who runs has a core
  pub running-has : (k v : ℕ) → k ≤ records l → running l k v ≡ true → has_core l k v ≡ true
  running-has zero v h e = absurd (omega (arith, (running_elim l 0 v e).within))
  running-has (suc k) v h e = go (ℕ_discrete v (who l k)) (running-has k v (omega arith))
    where
      go : Dec (v ≡ who l k) → (running l k v ≡ true → has_core l k v ≡ true) → has_core l (suc k) v ≡ true
      go (yes q) ih = rw q (has-own l k ∙ or_left (is_start l k) (runs_on_of l k) (sym (own (fine-at f k h)) ∙ rw q at e))
      go (no q) ih = has_other l k v q ∙ ih (sym (other (fine-at f k h) v q) ∙ e)

  -- who has a core has a start, at the instant of the record before or earlier, with no stop after it so far
  record Held (k v : ℕ) : Type 0 where
    pub from : ℕ
    pub within : from < records l
    pub is : starts l v from ≡ true
    pub soon : instant_at l from ≤ clock_at l k
    pub on : (j : ℕ) → from < j → j < k → stops l v j ≡ false

  held : (k v : ℕ) → k ≤ records l → has_core l k v ≡ true → Held k v
  unfolding runs_on_of
  held zero v h e = absurd (clash e (unfold has_core in refl))
  held (suc k) v h e = go (ℕ_discrete v (who l k)) (held k v (omega arith))
    where
      go : Dec (v ≡ who l k) → (has_core l k v ≡ true → Held k v) → Held (suc k) v
      go (no q) ih = on (ih (sym (has_other l k v q) ∙ e))
        where
          on : Held k v → Held (suc k) v
          on r = record {
            from = r.from;
            within = r.within;
            is = r.is;
            soon = omega (arith, r.soon, clock_up f few k h, clock_next-is l k);
            on = λ j a b. later j a b (ℕ_discrete j k);
          }
            where
              later : (j : ℕ) → r.from < j → j < suc k → Dec (j ≡ k) → stops l v j ≡ false
              later j a b (no y) = r.on j a (omega arith)
              later j a b (yes y) = not-true (stops l v j) (λ z. q (sym (stop-of l v k (rw y at z)).1))
      go (yes q) ih = by (or_cases (is_start l k) (runs_on_of l k) (sym (has-own l k) ∙ rw q at e))
        where
          by : (is_start l k ≡ true) ⊎ (runs_on_of l k ≡ true) → Held (suc k) v
          by (inl s) = record {
            from = k;
            within = h;
            is = of-start l v k s (sym q);
            soon = omega (arith, clock_next-is l k);
            on = λ j a b. absurd (omega arith);
          }
          by (inr s) =
              let a = any_elim (starts_later l k) (records l) s in
              let r = later_elim l k a.0 a.2 in
              record {
                from = a.0;
                within = a.1;
                is = rw q r.start;
                soon = omega (arith, r.same, clock_next-is l k);
                on = λ j a b. absurd (omega (arith, r.after));
              }

  has-known : (k v : ℕ) → k ≤ records l → has_core l k v ≡ true → v < n
  has-known k v h e = let r = held k v h e in omega (arith, (fine-at f r.from r.within).vertex, (start_of l v r.from r.is).1)

  -- after a start, who has a core runs in the tick from its instant on
  has-runs : (k v : ℕ) → k < records l → is_start l k ≡ true → has_core l (suc k) v ≡ true → runs_in l (instant_at l k) v ≡ true
  has-runs k v h s e = on (held (suc k) v h e)
    where
      on : Held (suc k) v → runs_in l (instant_at l k) v ≡ true
      on r =
          let w = start_of l v r.from r.is in
          runs_intro l (instant_at l k) v (record {
            from = r.from;
            within = r.within;
            start = w.0;
            whose = w.1;
            begun = omega (arith, r.soon, clock_next-is l k);
            on = λ j a b x. later j a b x (le-or-lt j k);
          })
        where
          later : (j : ℕ) → r.from < j → j < records l → stops l v j ≡ true → (j ≤ k) ⊎ (k < j) → instant_at l k < instant_at l j
          later j a b x (inl y) = absurd (clash x (r.on j a (omega arith)))
          later j a b x (inr y) = start-then-stop f few_vertices k j y b s (stop-of l v j x).0

  -- the records up to an instant, and the others
  up_to : ℕ → ℕ
  up_to t = first (λ k. ltb t (instant_at l k)) (records l)

  up-to : (t : ℕ) → Behind l t (up_to t)
  unfolding up_to
  up-to t = record {
    most = first-le p (records l);
    before = λ i h. ltb-false t (instant_at l i) (first_below p (records l) i h);
    after = λ i a b. after i b (ℕ_discrete (first p (records l)) i) (ltb-true t _ (first-here p (records l) (omega arith))) a;
  }
    where
      p : ℕ → Bool
      p k = ltb t (instant_at l k)

      after : (i : ℕ) → i < records l → Dec (first p (records l) ≡ i) → t < instant_at l (first p (records l)) → first p (records l) ≤ i → t < instant_at l i
      after i b (yes q) x a = rw (← q) x
      after i b (no q) x a = omega (arith, instants_rise f few_vertices (first p (records l)) i (omega arith) b)

  module _ (kind cores : ℕ → ℕ) where
    abbrev core : ℕ → ℕ → ℕ
    core = core_of n l kind cores

    abbrev begins : ℕ → ℕ → Bool
    begins k v = starts l v k && not (has_core l k v)

    core-stays : (k v : ℕ) → begins k v ≡ false → core (suc k) v ≡ core k v
    unfolding core_of
    core-stays k v e = rw e refl

    core-new : (k v : ℕ) → begins k v ≡ true → core (suc k) v ≡ first (λ j. not (taken (has_core l k) (core k) kind n (kind v) j)) (cores (kind v))
    unfolding core_of
    core-new k v e = rw e refl

    no_start : (k v : ℕ) → starts l v k ≡ false → core (suc k) v ≡ core k v
    no_start k v e = core-stays k v (rw e refl)

    -- a core is kept up to the next start
    kept : (v i m : ℕ) → i ≤ m → ((j : ℕ) → i ≤ j → j < m → starts l v j ≡ false) → core m v ≡ core i v
    kept v i zero h none = let e : i ≡ 0 = omega arith in rw e refl
    kept v i (suc m) h none = go (ℕ_discrete i (suc m)) (λ b. kept v i m b (λ j x y. none j x (omega arith)))
      where
        go : Dec (i ≡ suc m) → (i ≤ m → core m v ≡ core i v) → core (suc m) v ≡ core i v
        go (yes q) ih = rw q refl
        go (no q) ih = no_start m v (none m (omega arith) (omega arith)) ∙ ih (omega arith)

    -- ---- one vertex to a core

    -- after k records, those that have a core have one that there is, and no two of a kind have the same
    record Placed (k : ℕ) : Type 0 where
      pub below : (v : ℕ) → has_core l k v ≡ true → core k v < cores (kind v)
      pub apart : (u v : ℕ) → has_core l k u ≡ true → has_core l k v ≡ true → kind u ≡ kind v → core k u ≡ core k v → u ≡ v

    module _ (fits : Fits n l kind cores) (k : ℕ) (h : k < records l) (P : Placed k) where
      abbrev w : ℕ
      w = who l k

      abbrev pairs : ℕ → ℕ → Bool
      pairs j u = (has_core l k u && eqb (kind u) (kind w)) && eqb j (core k u)

      pair-elim : (j u : ℕ) → pairs j u ≡ true → (has_core l k u ≡ true) × (kind u ≡ kind w) × (j ≡ core k u)
      pair-elim j u e =
          let a = left-of (has_core l k u && eqb (kind u) (kind w)) _ e in (
            left-of (has_core l k u) _ a,
            eqb-true (kind u) (kind w) (right_of (has_core l k u) _ a),
            eqb-true j (core k u) (right_of (has_core l k u && eqb (kind u) (kind w)) _ e),
          )

      pair-intro : (u : ℕ) → has_core l k u ≡ true → kind u ≡ kind w → pairs (core k u) u ≡ true
      pair-intro u a b =
          both (has_core l k u && eqb (kind u) (kind w)) _ (both (has_core l k u) _ a (eq-eqb (kind u) (kind w) b)) (eq-eqb (core k u) (core k u) refl)

      -- a vertex that begins has a free core
      free : begins k w ≡ true → first (λ j. not (taken (has_core l k) (core k) kind n (kind w) j)) (cores (kind w)) < cores (kind w)
      unfolding taken
      free b = go (all-or-some (λ j. any (pairs j) n ≡ true) (λ j. any (pairs j) n ≡ false) (cores (kind w)) (λ j m. cases (any (pairs j) n)))
        where
          start : is_start l k ≡ true
          start = (start_of l w k (left-of (starts l w k) _ b)).0

          apart : has_core l k w ≡ false
          apart = not-is-true (has_core l k w) (right_of (starts l w k) _ b)

          runs : (v : ℕ) → has_core l k v ≡ true → runs_in l (instant_at l k) v ≡ true
          runs v x = has-runs k v h start (has_other l k v (λ q. clash x (rw q apart)) ∙ x)

          go : ((j : ℕ) → j < cores (kind w) → any (pairs j) n ≡ true) ⊎ ((j : ℕ) × (j < cores (kind w)) × (any (pairs j) n ≡ false))
              → first (λ j. not (any (pairs j) n)) (cores (kind w)) < cores (kind w)
          go (inr r) = first_found (λ j. not (any (pairs j) n)) (cores (kind w)) r.0 r.1 (true-not (any (pairs r.0) n) r.2)
          go (inl all) = absurd (omega (
            arith,
            count-all (λ j. any (pairs j) n) (cores (kind w)) all,
            count-pairs pairs (cores (kind w)) n
                (λ j u v a b c x y. let p = pair-elim j u x in let q = pair-elim j v y in P.apart u v p.0 q.0 (p.1 ∙ sym q.1) (sym p.2 ∙ q.2))
                (λ i j v a b c x y. (pair-elim i v x).2 ∙ sym (pair-elim j v y).2),
            count_less (λ v. any (λ j. pairs j v) (cores (kind w))) (λ u. runs_in l (instant_at l k) u && eqb (kind u) (kind w)) w n (fine-at f k h).vertex
                (λ v m x. let r = any_elim (λ j. pairs j v) (cores (kind w)) x in let p = pair-elim r.0 v r.2 in
                both (runs_in l (instant_at l k) v) _ (runs v p.0) (eq-eqb (kind v) (kind w) p.1))
                (both (runs_in l (instant_at l k) w) _ (has-runs k w h start (has-own l k ∙ or_left (is_start l k) _ start)) (eq-eqb (kind w) (kind w) refl))
                (any_none (λ j. pairs j w) (cores (kind w)) (λ j m. not-true (pairs j w) (λ x. clash (pair-elim j w x).0 apart))),
            fits (instant_at l k) w (fine-at f k h).vertex,
          ))

      -- no vertex gets a core unless it begins
      had : (v : ℕ) → begins k v ≡ false → has_core l (suc k) v ≡ true → has_core l k v ≡ true
      had v b e = go (ℕ_discrete v w)
        where
          by : (is_start l k ≡ true) ⊎ (is_stop l k ≡ true) → begins k w ≡ false → has_core l k w ≡ true
          by (inl s) x = not-false (has_core l k w) (not-second (starts l w k) _ x (of-start l w k s refl))
          by (inr s) x = running-has k w (omega arith) ((fine-at f k h).stop s)

          go : Dec (v ≡ w) → has_core l k v ≡ true
          go (yes q) = rw q (by (fine-at f k h).known (rw q at b))
          go (no q) = sym (has_other l k v q) ∙ e

      only : (v : ℕ) → v ≢ w → begins k v ≡ false
      only v x = not-true (begins k v) (λ e. x (sym (start_of l v k (left-of (starts l v k) _ e)).1))

      -- the core that it gets is no other vertex's
      not-mine : begins k w ≡ true → (v : ℕ) → has_core l k v ≡ true → kind v ≡ kind w → core (suc k) w ≡ core k v → ⊥
      unfolding taken
      not-mine b v e s q =
          let x : not (any (pairs (core k v)) n) ≡ true = rw (sym (core-new k w b) ∙ q) at (first-here (λ j. not (any (pairs j) n)) (cores (kind w)) (free b)) in
          clash (any_intro (pairs (core k v)) n v (has-known k v (omega arith) e) (pair-intro v e s)) (not-is-true (any (pairs (core k v)) n) x)

      placed-next : Placed (suc k)
      placed-next = record { below = λ v e. low v e (cases (begins k v)); apart = λ u v a b s q. differ u v a b s q (cases (begins k u)) (cases (begins k v)) }
        where
          mine : (v : ℕ) → begins k v ≡ true → v ≡ w
          mine v e = sym (start_of l v k (left-of (starts l v k) _ e)).1

          low : (v : ℕ) → has_core l (suc k) v ≡ true → (begins k v ≡ true) ⊎ (begins k v ≡ false) → core (suc k) v < cores (kind v)
          low v e (inl b) = let q = mine v b in rw q (rw (core-new k w (rw q at b)) (free (rw q at b)))
          low v e (inr b) = rw (core-stays k v b) (P.below v (had v b e))

          differ : (u v : ℕ) → has_core l (suc k) u ≡ true → has_core l (suc k) v ≡ true → kind u ≡ kind v → core (suc k) u ≡ core (suc k) v
              → (begins k u ≡ true) ⊎ (begins k u ≡ false) → (begins k v ≡ true) ⊎ (begins k v ≡ false) → u ≡ v
          differ u v a b s q (inl x) (inl y) = mine u x ∙ sym (mine v y)
          differ u v a b s q (inr x) (inr y) = P.apart u v (had u x a) (had v y b) s (sym (core-stays k u x) ∙ q ∙ core-stays k v y)
          differ u v a b s q (inl x) (inr y) =
              let p = mine u x in
              absurd (not-mine (rw p at x) v (had v y b) (sym s ∙ ap kind p) (ap (core (suc k)) (sym p) ∙ q ∙ core-stays k v y))
          differ u v a b s q (inr x) (inl y) =
              let p = mine v y in
              absurd (not-mine (rw p at y) u (had u x a) (s ∙ ap kind p) (ap (core (suc k)) (sym p) ∙ sym q ∙ core-stays k u x))

    placed : Fits n l kind cores → (k : ℕ) → k ≤ records l → Placed k
    placed fits zero h = record { below = λ v e. absurd (clash e (none v)); apart = λ u v a b s q. absurd (clash a (none u)) }
      where
        none : (v : ℕ) → has_core l 0 v ≡ false
        none v = unfold has_core in refl
    placed fits (suc k) h = placed-next fits k h (placed fits k (omega arith))

    -- ---- the list

    abbrev out : List ℕ
    out = lanes_of n l kind cores

    out_at : (k : ℕ) → k < records l → get_or out k 0 ≡ core (suc k) (who l k)
    unfolding lanes_of
    out_at k h = table_at (λ k. core (suc k) (who l k)) (records l) k h

    -- in a tick a vertex has the core that it has after the records up to its instant
    core-in : (t v e : ℕ) → Behind l t e → runs_in l t v ≡ true → core_in l out t v ≡ core e v
    unfolding core_in started_by
    core-in t v e B r =
        let i = last_that (started_by l v t) (records l) in
        let x = last-start l t v r in
        let low : instant_at l i ≤ t = leb-true (instant_at l i) t (right_of (starts l v i) _ x.there) in
        let early : i < e = ⊎_elim (λ (m : e ≤ i). absurd (omega (arith, B.after i m x.within))) (λ (m : i < e). m) (le-or-lt e i) in
        out_at i x.within
        ∙ ap (core (suc i)) (started_whose l t v i x.there)
        ∙ sym (kept v (suc i) e early (λ j a b. not-true (starts l v j)
        (λ y. clash (both (starts l v j) (leb (instant_at l j) t) y (le-leb (instant_at l j) t (B.before j b))) (x.after j a (omega (arith, B.most))))))

    -- a vertex that runs in two ticks has a core at all records of the instant between them, and keeps it
    record Keeping (e m v : ℕ) : Type 0 where
      pub has : has_core l m v ≡ true
      pub same : core m v ≡ core e v

    keeping : (t v e : ℕ) → Behind l t e → runs_in l t v ≡ true → runs_in l (suc t) v ≡ true → (m : ℕ) → e ≤ m → ((i : ℕ) → i < m → instant_at l i ≤ suc t) → m ≤ records l → Keeping e m v
    keeping t v e B r s zero a low h =
        let q : e ≡ 0 = omega arith in
        record { has = running-has 0 v h (rw q at (sym (runs_prefix l t e v B) ∙ r)); same = rw q refl }
    keeping t v e B r s (suc m) a low h = go (ℕ_discrete e (suc m)) (λ b. keeping t v e B r s m b (λ i c. low i (omega arith)) (omega arith))
      where
        go : Dec (e ≡ suc m) → (e ≤ m → Keeping e m v) → Keeping e (suc m) v
        go (yes q) ih = record { has = running-has (suc m) v h (rw q at (sym (runs_prefix l t e v B) ∙ r)); same = rw q refl }
        go (no q) ih = on (ih (omega arith))
          where
            here : instant_at l m ≡ suc t
            here = omega (arith, low m (omega arith), B.after m (omega arith) h)

            -- a stop here is followed by the start from which it runs in the next tick
            again : Runs l (suc t) v → is_stop l m ≡ true → v ≡ who l m → runs_on_of l m ≡ true
            again x y z =
                let past : m < x.from = ⊎_elim (λ (b : x.from ≤ m). absurd (late b (ℕ_discrete x.from m))) (λ (b : m < x.from). b) (le-or-lt x.from m) in
                runs-on-here l m x.from x.within (record {
                  after = past;
                  start = of-start l (who l m) x.from x.start (x.whose ∙ z);
                  same = omega (arith, here, x.begun, instants_rise f few_vertices m x.from past x.within);
                })
              where
                late : x.from ≤ m → Dec (x.from ≡ m) → ⊥
                late b (yes p) = not-both l m (rw p at x.start) y
                late b (no p) = omega (arith, here, x.on m (omega arith) h (of-stop l v m y (sym z)))

            own-has : (is_start l m ≡ true) ⊎ (is_stop l m ≡ true) → v ≡ who l m → is_start l m || runs_on_of l m ≡ true
            own-has (inl y) z = or_left (is_start l m) (runs_on_of l m) y
            own-has (inr y) z = or_right (is_start l m) (runs_on_of l m) (again (runs_elim l (suc t) v s) y z)

            has-next : has_core l m v ≡ true → Dec (v ≡ who l m) → has_core l (suc m) v ≡ true
            has-next x (yes z) = ap (has_core l (suc m)) z ∙ (has-own l m ∙ own-has (fine-at f m h).known z)
            has-next x (no z) = has_other l m v z ∙ x

            on : Keeping e m v → Keeping e (suc m) v
            on x = record {
              has = has-next x.has (ℕ_discrete v (who l m));
              same = core-stays m v (rw x.has (and-false (starts l v m))) ∙ x.same;
            }

    -- THEOREM.
    pub lanes_named : Fits n l kind cores → Named l kind cores out
    lanes_named fits = record {
      long = long;
      within = λ k h. rw (out_at k h) (within k h (fine-at f k h).known);
      apart = λ t u v a b s q.
          let B = up-to t in
          let e = up_to t in
          (placed fits e B.most).apart u v (running-has e u B.most (sym (runs_prefix l t e u B) ∙ a)) (running-has e v B.most (sym (runs_prefix l t e v B) ∙ b)) s
          (sym (core-in t u e B a) ∙ q ∙ core-in t v e B b);
      keeps = λ t v a b.
          let B = up-to t in
          let C = up-to (suc t) in
          core-in (suc t) v (up_to (suc t)) C b
          ∙ (keeping t v (up_to t) B a b (up_to (suc t)) (further B C) C.before C.most).same
          ∙ sym (core-in t v (up_to t) B a);
      freed = freed;
    }
      where
        long : length out ≡ records l
        long = unfold lanes_of in table-length (λ k. core (suc k) (who l k)) (records l)

        stop-stays : (k : ℕ) → is_stop l k ≡ true → core (suc k) (who l k) ≡ core k (who l k)
        stop-stays k s = no_start k (who l k) (not-true (starts l (who l k) k) (λ x. not-both l k (start_of l (who l k) k x).0 s))

        within : (k : ℕ) → k < records l → (is_start l k ≡ true) ⊎ (is_stop l k ≡ true) → core (suc k) (who l k) < cores (kind (who l k))
        within k h (inl s) = (placed fits (suc k) h).below (who l k) (has-own l k ∙ or_left (is_start l k) (runs_on_of l k) s)
        within k h (inr s) = rw (stop-stays k s) ((placed fits k (omega arith)).below (who l k) (running-has k (who l k) (omega arith) ((fine-at f k h).stop s)))

        further : {t d e : ℕ} → Behind l t d → Behind l (suc t) e → d ≤ e
        further {t} {d} {e} B C = ⊎_elim (λ (m : d ≤ e). m) (λ (m : e < d). absurd (omega (arith, B.before e m, C.after e (omega arith) (omega (arith, B.most))))) (le-or-lt d e)

        freed : (k : ℕ) → k < records l → is_stop l k ≡ true → get_or out k 0 ≡ get_or out (last_that (starts l (who l k)) k) 0
        freed k h s =
            let r = running_elim l k (who l k) ((fine-at f k h).stop s) in
            let x = last-is (starts l (who l k)) k r.from r.within r.is in
            let i = last_that (starts l (who l k)) k in
            out_at k h
            ∙ stop-stays k s
            ∙ kept (who l k) (suc i) k x.within (λ j a b. x.after j a b)
            ∙ sym (out_at i (omega (arith, x.within)) ∙ ap (core (suc i)) (start_of l (who l k) i x.there).1)
