-- The log of a schedule is in form, and records that schedule.
--
-- Each record is a start or a stop of the schedule, each start and stop has its record, and the records ascend. So between a start record
-- of a vertex and its next stop record the vertex runs in each tick, and before its start record it does not.
use mathlib.Core.Path.{◌≡◌, refl, sym, ap, ap₂, ◌∙◌, fun_ext}
use mathlib.Core.Logic.{◌⊎◌, inl, inr, ⊎_elim}
use mathlib.Core.Bool.{Bool, true, false, not, ◌&&◌, ◌||◌}
use mathlib.Core.List.{List}
use Prim.Native.Nat.{ℕ, zero, suc, ◌+◌, ◌-◌, ◌*◌, ◌/◌, ◌%◌, ◌≤◌, ◌<◌}
use native.Mathlib.Omega.{arith}
use lib.ListN.{length, get_or, get_or-eq_default}
use lib.Dec.{eqb, ltb, leb}
use borrow.Author.Tests.{le-ltb, ltb-true, lt-leb, eq-eqb, ne_eqb}
use Rattle.model.specs.Places.{count, that}
use Rattle.model.specs.Schedule.{Schedule}
use Rattle.model.proofs.Bools.{cases, clash, le-or-lt, left-of, right_of, not-true, not-is-true}
use Rattle.model.proofs.Places.{any_none, count_ext, count_none, count-there, count-up}
use Rattle.model.proofs.Sums.{largest-within}
use Rattle.model.proofs.Turns.{count_past}
use Rattle.model.proofs.That.{Kth, that-length, that_kth, that-rank, rank_rises, place-rises}
use Rattle.graph.specs.File.{records, byte_at}
use Rattle.recorded.specs.Log.{is_start, is_stop, who, instant_at, key, starts, stops, running, unknown_kind, unknown_vertex, wrong_order, start_while_running, stop_while_not_running, too_late, fault, wrong_length_of, unended, InForm}
use Rattle.recorded.specs.Recorded.{last_instant, runs_in, ran_ticks, total, schedule_of}
use Rattle.recorded.specs.LogOf.{starts_at, stops_at_of, change, log_up_to}
use Rattle.recorded.proofs.Records.{Lasting, running_elim, running_intro, start_of, stop-of, of-start, of-stop}
use Rattle.recorded.proofs.Recording.{Runs, runs_elim, runs_intro, runs-known, none_after}
use Rattle.recorded.proofs.Entries.{Says, says, bytes-length, bytes-at, record-bytes}
use Rattle.recorded.proofs.Changes.{start-runs, start-fresh, stop_still, stop-ran, runs_on, start_changes, stop_changes, Began, began}

-- record k of the log: its key
pub record Entry (n : ℕ) (S : Schedule) (h k : ℕ) : Type 0 where
  pub x : ℕ
  pub kth : Kth (change n S) (512 * suc h) k x
  pub says : Says (log_up_to n S h) k x

-- the record k of the log l is one of the vertex v at the instant t, of the sort that the test tells
pub record Found (l : List ℕ) (sort : ℕ → Bool) (t v : ℕ) : Type 0 where
  pub k : ℕ
  pub within : k < records l
  pub is : sort k ≡ true
  pub whose : who l k ≡ v
  pub when : instant_at l k ≡ t

module _ (n : ℕ) (S : Schedule) (h : ℕ) where
  abbrev l : List ℕ
  l = log_up_to n S h

  abbrev size : ℕ
  size = count (change n S) (512 * suc h)

  pub log-length : length (log_up_to n S h) ≡ 8 * size
  unfolding log_up_to
  log-length = bytes-length (that (change n S) (512 * suc h)) ∙ ap (λ (m : ℕ). 8 * m) (that-length (change n S) (512 * suc h))

  log-records : records l ≡ size
  log-records = omega (arith, log-length)

  entry : (k : ℕ) → k < records l → Entry n S h k
  unfolding log_up_to
  entry k b = record {
    x = get_or (that (change n S) (512 * suc h)) k 0;
    kth = that_kth (change n S) (512 * suc h) k (omega (arith, log-records));
    says = says (that (change n S) (512 * suc h)) k (omega (arith, log-records, that-length (change n S) (512 * suc h)));
  }

  -- ---- each record is a start or a stop of the schedule

  vertex_known : (k : ℕ) → k < records l → who l k < n
  unfolding change
  vertex_known k b =
      let e = entry k b in
      omega (arith, e.says.vertex, ltb-true (e.x % 256) n (left-of (ltb (e.x % 256) n) _ e.kth.is))

  instant-by : (k : ℕ) → k < records l → instant_at l k ≤ h
  instant-by k b = let e = entry k b in omega (arith, e.says.instant, e.kth.below)

  start_is : (k : ℕ) → k < records l → is_start l k ≡ true → starts_at S (instant_at l k) (who l k) ≡ true
  unfolding change
  start_is k b s =
      let e = entry k b in
      let q : eqb (e.x / 256 % 2) 1 ≡ true = sym e.says.start ∙ s in
      rw (e.says.instant, e.says.vertex) (rw q at (right_of (ltb (e.x % 256) n) _ e.kth.is))

  stop_is : (k : ℕ) → k < records l → is_stop l k ≡ true → stops_at_of S (instant_at l k) (who l k) ≡ true
  unfolding change
  stop_is k b s =
      let e = entry k b in
      let q : eqb (e.x / 256 % 2) 1 ≡ false = not-is-true (eqb (e.x / 256 % 2) 1) (sym e.says.stop ∙ s) in
      rw (e.says.instant, e.says.vertex) (rw q at (right_of (ltb (e.x % 256) n) _ e.kth.is))

  sorts : (k : ℕ) → k < records l → is_stop l k ≡ not (is_start l k)
  sorts k b = let e = entry k b in e.says.stop ∙ ap not (sym e.says.start)

  keys_rise : (i j : ℕ) → i < j → j < records l → key l i < key l j
  keys_rise i j a b =
      let c = entry i (omega arith) in
      let d = entry j b in
      omega (arith, c.says.has_key, d.says.has_key, place-rises (change n S) c.kth d.kth a)

  keys-tell : (i j : ℕ) → i < records l → j < records l → key l i < key l j → i < j
  keys-tell i j a b m =
      let c = entry i a in
      let d = entry j b in
      rank_rises (change n S) c.kth d.kth (omega (arith, c.says.has_key, d.says.has_key))

  -- a record's key, from what it says
  start-key : (k : ℕ) → is_start l k ≡ true → key l k ≡ 512 * instant_at l k + 256 + who l k
  unfolding key
  start-key k s = rw s (omega arith)

  stop-key : (k : ℕ) → k < records l → is_stop l k ≡ true → key l k ≡ 512 * instant_at l k + who l k
  unfolding key
  stop-key k b s =
      let q : is_start l k ≡ false = not-is-true (is_start l k) (sym (sorts k b) ∙ s) in
      rw q (omega arith)

  -- THEOREM. Its bytes are bytes, where its instants are few enough.
  pub log-bytes : h ≤ 128000000 → (i : ℕ) → get_or (log_up_to n S h) i 0 < 256
  unfolding log_up_to
  log-bytes short i = go (le-or-lt (length l) i)
    where
      go : (length l ≤ i) ⊎ (i < length l) → get_or l i 0 < 256
      go (inl m) = omega (arith, get_or-eq_default l 0 m)
      go (inr m) =
          let b : i / 8 < size = omega (arith, log-length) in
          let q : i ≡ 8 * (i / 8) + i % 8 = omega arith in
          rw q (bytes (i / 8) (i % 8) b (omega arith))
        where
          bytes : (k j : ℕ) → k < size → j < 8 → byte_at l k j < 256
          bytes k j b c =
              rw (bytes-at (that (change n S) (512 * suc h)) k j (omega (arith, that-length (change n S) (512 * suc h))) c)
              (record-bytes (get_or (that (change n S) (512 * suc h)) k 0) j (omega (arith, (that_kth (change n S) (512 * suc h) k b).below)))

  module _ (few : n ≤ 256) where
    -- ---- each start and stop has its record

    -- the record with the key x
    at : (x : ℕ) → x < 512 * suc h → change n S x ≡ true → (k : ℕ) × (k < records l) × Says l k x
    unfolding log_up_to
    at x b c =
        let k = count (change n S) x in
        let r : get_or (that (change n S) (512 * suc h)) k 0 ≡ x = that-rank (change n S) (512 * suc h) x b c in
        let m : k < size = omega (arith, count-there (change n S) x c, count-up (change n S) (suc x) (512 * suc h) b) in
        (k, omega (arith, log-records), rw r at (says (that (change n S) (512 * suc h)) k (omega (arith, that-length (change n S) (512 * suc h)))))

    started : (t v : ℕ) → v < n → t ≤ h → starts_at S t v ≡ true → Found l (is_start l) t v
    started t v b m e =
        let a : (512 * t + 256 + v) % 256 ≡ v = omega arith in
        let y : (512 * t + 256 + v) / 256 ≡ 2 * t + 1 = omega arith in
        let c : (512 * t + 256 + v) / 256 % 2 ≡ 1 = rw y (omega arith) in
        let d : (512 * t + 256 + v) / 512 ≡ t = omega arith in
        told (512 * t + 256 + v) a c d (at (512 * t + 256 + v) (omega arith) (start_changes n S t v b few e))
      where
        told : (x : ℕ) → x % 256 ≡ v → x / 256 % 2 ≡ 1 → x / 512 ≡ t → (k : ℕ) × (k < records l) × Says l k x → Found l (is_start l) t v
        told x a c d (k, b, w) = record { k = k; within = b; is = w.start ∙ eq-eqb (x / 256 % 2) 1 c; whose = w.vertex ∙ a; when = w.instant ∙ d }

    ended : (t v : ℕ) → v < n → t ≤ h → stops_at_of S t v ≡ true → Found l (is_stop l) t v
    ended t v b m e =
        let a : (512 * t + v) % 256 ≡ v = omega arith in
        let y : (512 * t + v) / 256 ≡ 2 * t = omega arith in
        let c : (512 * t + v) / 256 % 2 ≡ 0 = rw y (omega arith) in
        let d : (512 * t + v) / 512 ≡ t = omega arith in
        told (512 * t + v) a c d (at (512 * t + v) (omega arith) (stop_changes n S t v b few e))
      where
        told : (x : ℕ) → x % 256 ≡ v → x / 256 % 2 ≡ 0 → x / 512 ≡ t → (k : ℕ) × (k < records l) × Says l k x → Found l (is_stop l) t v
        told x a c d (k, b, w) =
            record { k = k; within = b; is = w.stop ∙ ap not (ne_eqb (x / 256 % 2) 1 (λ z. omega arith)); whose = w.vertex ∙ a; when = w.instant ∙ d }

    module _ (quiet : (t v : ℕ) → v < n → h ≤ t → S.runs t v ≡ false) where
      runs-before : (t v : ℕ) → v < n → S.runs t v ≡ true → t < h
      runs-before t v b e = ⊎_elim (λ (m : h ≤ t). absurd (clash e (quiet t v b m))) (λ m. m) (le-or-lt h t)

      stops-by : (t v : ℕ) → v < n → stops_at_of S t v ≡ true → t ≤ h
      stops-by t v b e = let r = stop-ran S t v e in omega (arith, runs-before r.0 v b r.2, r.1)

      -- a start record i of v with no stop record of v up to the instant t: v runs in the tick t
      on-from : (i t v : ℕ) → i < records l → is_start l i ≡ true → who l i ≡ v → instant_at l i ≤ t
          → ((j : ℕ) → i < j → j < records l → stops l v j ≡ true → instant_at l j ≤ t → ⊥) → S.runs t v ≡ true
      on-from i t v b s w m none =
          runs_on S (instant_at l i) t v m (rw w at (start-runs S (instant_at l i) (who l i) (start_is i b s)))
          (λ c x y. not-true (stops_at_of S c v) (λ z. wrong c x y (ended c v known (stops-by c v known z) z)))
        where
          known : v < n
          known = omega (arith, vertex_known i b)

          wrong : (c : ℕ) → instant_at l i < c → c ≤ t → Found l (is_stop l) c v → ⊥
          wrong c x y r =
              none r.k
              (keys-tell i r.k b r.within (omega (arith, start-key i s, stop-key r.k r.within r.is, r.whose, r.when, few)))
              r.within (of-stop l v r.k r.is r.whose) (omega (arith, r.when))

      -- the start record of v from which it runs in the tick t, and no stop record of v after it up to there
      from : (t v : ℕ) → v < n → S.runs t v ≡ true → Runs l t v
      from t v b e = go (began S t v e)
        where
          go : Began S t v → Runs l t v
          go r = on (started r.from v b (omega (arith, r.by, runs-before t v b e)) r.start)
            where
              on : Found l (is_start l) r.from v → Runs l t v
              on i = record {
                from = i.k;
                within = i.within;
                start = i.is;
                whose = i.whose;
                begun = omega (arith, i.when, r.by);
                on = λ j a c x. later j a c (stop-of l v j x) (le-or-lt (instant_at l j) t);
              }
                where
                  later : (j : ℕ) → i.k < j → j < records l → (is_stop l j ≡ true) × (who l j ≡ v) → (instant_at l j ≤ t) ⊎ (t < instant_at l j) → t < instant_at l j
                  later j a c x (inr y) = y
                  later j a c x (inl y) = absurd (clash
                      (r.on (instant_at l j)
                      (omega (arith, keys_rise i.k j a c, start-key i.k i.is, stop-key j c x.0, i.whose, i.when, x.1)) y)
                      (rw x.1 at (stop_still S (instant_at l j) (who l j) (stop_is j c x.0))))

      -- ---- the schedule

      runs_same : (t v : ℕ) → v < n → runs_in l t v ≡ S.runs t v
      runs_same t v b = go (cases (runs_in l t v)) (cases (S.runs t v))
        where
          forth : Runs l t v → S.runs t v ≡ true
          forth r = on-from r.from t v r.within r.start r.whose r.begun (λ j a c x y. omega (arith, r.on j a c x))

          go : (runs_in l t v ≡ true) ⊎ (runs_in l t v ≡ false) → (S.runs t v ≡ true) ⊎ (S.runs t v ≡ false) → runs_in l t v ≡ S.runs t v
          go (inl x) (inl y) = x ∙ sym y
          go (inr x) (inr y) = x ∙ sym y
          go (inl x) (inr y) = absurd (clash (forth (runs_elim l t v x)) y)
          go (inr x) (inl y) = absurd (clash (runs_intro l t v (from t v b y)) x)

      -- ---- the form

      started-fresh : (k : ℕ) → k < records l → is_start l k ≡ true → running l k (who l k) ≡ false
      started-fresh k b s = not-true (running l k (who l k)) (λ e. wrong (running_elim l k (who l k) e))
        where
          wrong : Lasting (starts l (who l k)) (stops l (who l k)) k → ⊥
          wrong r = go (instant_at l k) refl
            where
              m : r.from < records l
              m = omega (arith, r.within)

              w : (is_start l r.from ≡ true) × (who l r.from ≡ who l k)
              w = start_of l (who l k) r.from r.is

              rises : instant_at l r.from < instant_at l k
              rises = omega (arith, keys_rise r.from k r.within b, start-key r.from w.0, start-key k s, w.1)

              go : (t : ℕ) → instant_at l k ≡ t → ⊥
              go zero q = omega (arith, rises)
              go (suc t) q = clash
                  (on-from r.from t (who l k) m w.0 w.1 (omega (arith, rises))
                  (λ j a c x y. let z = stop-of l (who l k) j x in
                  clash x (r.on j a (keys-tell j k c b (omega (arith, start-key k s, stop-key j c z.0, z.1))))))
                  (start-fresh S t (who l k) (rw q at (start_is k b s)))

      stopped-running : (k : ℕ) → k < records l → is_stop l k ≡ true → running l k (who l k) ≡ true
      stopped-running k b s = go (stop-ran S (instant_at l k) (who l k) (stop_is k b s))
        where
          go : (t : ℕ) × (instant_at l k ≡ suc t) × (S.runs t (who l k) ≡ true) → running l k (who l k) ≡ true
          go (t, q, e) = on (from t (who l k) (vertex_known k b) e)
            where
              on : Runs l t (who l k) → running l k (who l k) ≡ true
              on r = running_intro l k (who l k) (record {
                from = r.from;
                within = keys-tell r.from k r.within b (omega (arith, start-key r.from r.start, stop-key k b s, r.whose, r.begun, few));
                is = of-start l (who l k) r.from r.start r.whose;
                on = λ j a c. not-true (stops l (who l k) j) (λ x. let z = stop-of l (who l k) j x in
                    omega (arith, keys_rise j k c b, stop-key j (omega arith) z.0, stop-key k b s, z.1, r.on j a (omega arith) x));
              })

      all_stopped : unended n l ≡ false
      unfolding unended
      all_stopped = any_none (running l (records l)) n
          (λ v b. not-true (running l (records l) v) (λ e. clash (still v b (running_elim l (records l) v e)) (quiet h v b (omega arith))))
        where
          still : (v : ℕ) → v < n → Lasting (starts l v) (stops l v) (records l) → S.runs h v ≡ true
          still v b r =
              let w = start_of l v r.from r.is in
              on-from r.from h v r.within w.0 w.1 (instant-by r.from r.within) (λ j a c x y. clash x (r.on j a c))

      module _ (short : h ≤ 128000000) (fits : size ≤ 8192) where
        no_fault : (k : ℕ) → k < records l → fault n l k ≡ false
        unfolding fault unknown_kind unknown_vertex wrong_order start_while_running stop_while_not_running too_late
        no_fault k b =
            rw (
              lt-leb n (who l k) (vertex_known k b),
              (entry k b).says.spare,
              ordered k b,
              le-ltb 128000000 (instant_at l k) (omega (arith, instant-by k b)),
            ) (rest (is_start l k) (is_stop l k) (running l k (who l k)) (sorts k b) (started-fresh k b) (stopped-running k b))
          where
            ordered : (k : ℕ) → k < records l → ltb 0 k && leb (key l k) (key l (k - 1)) ≡ false
            ordered zero b = refl
            ordered (suc k) b =
                let e : suc k - 1 ≡ k = omega arith in
                rw (e, lt-leb (key l (suc k)) (key l k) (keys_rise k (suc k) (omega arith) b)) (none (ltb 0 (suc k)))
              where
                none : (b : Bool) → b && false ≡ false
                none true = refl
                none false = refl

            rest : (a b c : Bool) → b ≡ not a → (a ≡ true → c ≡ false) → (b ≡ true → c ≡ true)
                → not (a || b) || (false || (false || (false || (a && c || (b && not c || false))))) ≡ false
            rest true true c e f g = absurd (clash refl e)
            rest true false c e f g = rw (f refl) refl
            rest false true c e f g = rw (g refl) refl
            rest false false c e f g = absurd (clash e refl)

        -- THEOREM. The log of a schedule is in form, where it is short enough.
        pub log_in_form : InForm n (log_up_to n S h)
        unfolding wrong_length_of
        log_in_form = record {
          right_length = rw (eq-eqb (length l % 8) 0 (omega (arith, log-length)), le-ltb 65536 (length l) (omega (arith, log-length))) refl;
          no_fault = no_fault;
          all_stopped = all_stopped;
        }

        total-same : (v : ℕ) → v < n → total l v ≡ count (λ t. S.runs t v) h
        unfolding total ran_ticks last_instant
        total-same v b =
            let m : last_instant l ≤ h = largest-within (instant_at l) h (records l) (λ k c. instant-by k c) in
            sym (count_past (λ t. runs_in l t v) (last_instant l) h m (λ t c d. none_after log_in_form t v c))
            ∙ count_ext (λ t. runs_in l t v) (λ t. S.runs t v) h (λ t c. runs_same t v b)

        -- THEOREM. The log of a schedule records that schedule, where it says nothing of other vertices and has each vertex run its time.
        pub log-records_it : ((v : ℕ) → v < n → count (λ t. S.runs t v) h ≡ S.time v) → ((t v : ℕ) → n ≤ v → S.runs t v ≡ false)
            → ((v : ℕ) → n ≤ v → S.time v ≡ 0) → schedule_of (log_up_to n S h) ≡ S
        unfolding schedule_of
        log-records_it spent no-runs no-time =
            ap₂ {C = Schedule} (λ (e : ℕ → ℕ) (r : ℕ → ℕ → Bool). record { time = e; runs = r })
            (fun_ext (λ v. times v (le-or-lt n v))) (fun_ext (λ t. fun_ext (λ v. runs t v (le-or-lt n v))))
          where
            other : (t v : ℕ) → n ≤ v → runs_in l t v ≡ false
            other t v b = not-true (runs_in l t v) (λ e. omega (arith, runs-known log_in_form t v e))

            runs : (t v : ℕ) → (n ≤ v) ⊎ (v < n) → runs_in l t v ≡ S.runs t v
            runs t v (inr b) = runs_same t v b
            runs t v (inl b) = other t v b ∙ sym (no-runs t v b)

            times : (v : ℕ) → (n ≤ v) ⊎ (v < n) → total l v ≡ S.time v
            times v (inr b) = total-same v b ∙ spent v b
            times v (inl b) = unfold total ran_ticks in count_none (λ t. runs_in l t v) (last_instant l) (λ t c. other t v b) ∙ sym (no-time v b)
