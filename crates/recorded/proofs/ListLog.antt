-- The log of a work-conserving schedule is accepted; that of the list schedule is short enough, since each vertex runs in one interval.
--
-- In the list schedule a vertex that runs and has ticks left runs on: what is ready stays ready, and a ready vertex that ran in the tick
-- before runs. So it stops only where it has nothing left, and never starts again.
use mathlib.Core.Path.{◌≡◌, refl, sym, ap, ◌∙◌}
use mathlib.Core.Logic.{◌⊎◌, inl, inr, ⊎_elim}
use mathlib.Core.Bool.{true, false}
use Prim.Native.Nat.{ℕ, zero, suc, ◌+◌, ◌-◌, ◌*◌, ◌/◌, ◌%◌, ◌≤◌, ◌<◌}
use native.Mathlib.Omega.{arith}
use lib.ListN.{length, get_or}
use lib.Dec.{eqb, ltb, lit<}
use borrow.Author.Tests.{lt-ltb, ltb-true}
use Rattle.model.specs.Places.{pick, bit, count, sum}
use Rattle.model.specs.Graph.{Graph, WellFormed}
use Rattle.model.specs.Cycle.{Acyclic}
use Rattle.model.specs.Schedule.{Schedule, left, Ready, Times, WorkConserving, AllFinished, Finish}
use Rattle.model.specs.ListSchedule.{ready, State, chosen, leap, step, begin, steps, list_schedule}
use Rattle.model.proofs.Bools.{cases, clash, le-or-lt, both, left-of, right_of, not-true, or_left, bit-one, bit-zero}
use Rattle.model.proofs.Sums.{sum-most}
use Rattle.model.proofs.That.{few_rests, few_rests_of}
use Rattle.model.proofs.Finished.{fin_left, fin_step, fin_later, left-ready, left-later, ready-left}
use Rattle.model.proofs.Tests.{ready-tells}
use Rattle.model.proofs.Tick.{all_by}
use Rattle.model.proofs.Leap.{ready-past}
use Rattle.model.proofs.Listed.{chosen-ready, left-steps, list_works}
use Rattle.recorded.specs.Recorded.{total, schedule_of, finish_in_of}
use Rattle.recorded.specs.Judge.{Conforms}
use Rattle.recorded.specs.LogOf.{starts_at, stops_at_of, change, log_up_to, log_of}
use Rattle.recorded.proofs.Finishing.{finish-is}
use Rattle.recorded.proofs.Changes.{start-runs, start-fresh, stop_still, stop-ran, runs_on, change-of}
use Rattle.recorded.proofs.Logged.{log-length, log_in_form, log-records_it, log-bytes}

-- ---- any work-conserving schedule

module _ {G : Graph} (W : WellFormed G) (A : Acyclic G) {S : Schedule} (C : WorkConserving G S) where
  -- what a vertex ran and what is left of it are its time
  pub ran-left : (t v : ℕ) → v < G.n → count (λ i. S.runs i v) t + left S t v ≡ S.time v
  unfolding left count
  ran-left zero v b = omega arith
  ran-left (suc t) v b = go (cases (S.runs t v)) (ran-left t v b)
    where
      go : (S.runs t v ≡ true) ⊎ (S.runs t v ≡ false) → count (λ i. S.runs i v) t + left S t v ≡ S.time v
          → count (λ i. S.runs i v) t + bit (S.runs t v) + (left S t v - bit (S.runs t v)) ≡ S.time v
      go (inl e) ih = omega (arith, bit-one (S.runs t v) e, ready-left (C.runs_ready t v b e))
      go (inr e) ih = omega (arith, bit-zero (S.runs t v) e)

  module _ (h : ℕ) (all : AllFinished G S h) where
    quiet : (t v : ℕ) → v < G.n → h ≤ t → S.runs t v ≡ false
    quiet t v b m = not-true (S.runs t v) (λ e. (C.runs_ready t v b e).unfinished (fin_later S h t m (all v b)))

    spent : (v : ℕ) → v < G.n → count (λ t. S.runs t v) h ≡ S.time v
    spent v b = omega (arith, ran-left h v b, fin_left (all v b))

    module _ (few : G.n ≤ 256) (E : Times G S.time) (short : h ≤ 128000000) (fits : count (change G.n S) (512 * suc h) ≤ 8192)
        (no-runs : (t v : ℕ) → G.n ≤ v → S.runs t v ≡ false) (no-time : (v : ℕ) → G.n ≤ v → S.time v ≡ 0) where
      -- THEOREM. The log of a work-conserving schedule records it,
      pub log_is : schedule_of (log_up_to G.n S h) ≡ S
      log_is = log-records_it G.n S h few quiet short fits spent no-runs no-time

      -- is in form, and passes,
      pub log_conforms : Conforms G (log_up_to G.n S h)
      log_conforms = record { in_form = log_in_form G.n S h few quiet short fits; conserving = rw log_is C; in_time = rw log_is E }

      -- and has its finish.
      pub log-finish : Finish G S (finish_in_of G (log_up_to G.n S h))
      log-finish = rw log_is at (finish-is W A few log_conforms.in_form)

-- ---- the list schedule

-- one that is chosen, and is then ready with ticks left, is chosen again
chosen_again : (G : Graph) (s : State) (v : ℕ) → chosen G s v ≡ true → ready G (step G s).rest v ≡ true → 0 < (step G s).rest v → chosen G (step G s) v ≡ true
unfolding chosen
chosen_again G s v x r m = both (ready G (step G s).rest v) _ r (or_left ((step G s).ran v) _ marked)
  where
    marked : (step G s).ran v ≡ true
    marked = unfold leap in both (chosen G s v) (ltb 0 (s.rest v - pick (chosen G s v) 1 0)) x (lt-ltb 0 (s.rest v - pick (chosen G s v) 1 0) (unfold leap in m))

module _ {G : Graph} (W : WellFormed G) (A : Acyclic G) (e : ℕ → ℕ) where
  abbrev S : Schedule
  S = list_schedule G e

  C : WorkConserving G S
  C = list_works W A e

  runs-left : (t v : ℕ) → v < G.n → S.runs t v ≡ true → 0 < left S t v
  runs-left t v b x = ready-left (C.runs_ready t v b x)

  -- what runs and has ticks left runs on
  runs-again : (t v : ℕ) → v < G.n → S.runs t v ≡ true → 0 < left S (suc t) v → S.runs (suc t) v ≡ true
  unfolding list_schedule steps
  runs-again t v b x m =
      let r : Ready G (left S (suc t)) v = left-ready m (λ u d. fin_step S t ((C.runs_ready t v b x).before u d)) in
      let q : ready G (left S (suc t)) v ≡ true = (ready-tells W (left S (suc t)) A).complete v b r in
      chosen_again G (steps G t (begin e)) v x (rw (left-steps G e (suc t)) at q) (rw (left-steps G e (suc t)) at m)

  -- so it stops where it has nothing left,
  stops-done : (t v : ℕ) → v < G.n → stops_at_of S t v ≡ true → left S t v ≡ 0
  stops-done t v b x = go (stop-ran S t v x)
    where
      go : (i : ℕ) × (t ≡ suc i) × (S.runs i v ≡ true) → left S t v ≡ 0
      go (i, q, y) = ⊎_elim (λ (z : left S t v ≤ 0). omega arith)
          (λ (z : 0 < left S t v). absurd (clash (runs-again i v b y (rw q at z)) (rw q at (stop_still S t v x)))) (le-or-lt (left S t v) 0)

  -- THEOREM. In the list schedule a vertex starts once at most, and stops once at most.
  pub starts-once : (a b v : ℕ) → v < G.n → a < b → starts_at S a v ≡ true → starts_at S b v ≡ true → ⊥
  starts-once a zero v k m x y = omega arith
  starts-once a (suc b) v k m x y = clash
      (runs_on S a b v (omega arith) (start-runs S a v x)
      (λ c p q. not-true (stops_at_of S c v)
      (λ z. omega (arith, stops-done c v k z, left-later S c (suc b) v (omega arith), runs-left (suc b) v k (start-runs S (suc b) v y)))))
      (start-fresh S b v y)

  pub stops-once : (a b v : ℕ) → v < G.n → a < b → stops_at_of S a v ≡ true → stops_at_of S b v ≡ true → ⊥
  stops-once a b v k m x y = go (stop-ran S b v y)
    where
      go : (i : ℕ) × (b ≡ suc i) × (S.runs i v ≡ true) → ⊥
      go (i, q, z) = omega (arith, stops-done a v k x, left-later S a i v (omega arith), runs-left i v k z)

  -- THEOREM. The ticks in which a vertex runs are an interval: between two of them it runs.
  pub runs-between : (a t b v : ℕ) → v < G.n → a ≤ t → t ≤ b → S.runs a v ≡ true → S.runs b v ≡ true → S.runs t v ≡ true
  runs-between a t b v k m p x y = runs_on S a t v m x
      (λ c q r. not-true (stops_at_of S c v) (λ z. omega (arith, stops-done c v k z, left-later S c b v (omega arith), runs-left b v k y)))

  -- so its log has two records of a vertex at most
  apart : (x y : ℕ) → x < y → change G.n S x ≡ true → change G.n S y ≡ true → x % 512 ≡ y % 512 → ⊥
  unfolding change
  apart x y m p q r =
      let a : x % 256 ≡ y % 256 = omega arith in
      let s : x / 256 % 2 ≡ y / 256 % 2 = halves in
      let k : x % 256 < G.n = ltb-true (x % 256) G.n (left-of (ltb (x % 256) G.n) _ p) in
      kinds a s k (right_of (ltb (x % 256) G.n) _ p) (right_of (ltb (y % 256) G.n) _ q) (cases (eqb (y / 256 % 2) 1))
    where
      half : (z : ℕ) → z / 256 % 2 ≡ z % 512 / 256
      half z = let c : z / 256 ≡ 2 * (z / 512) + z % 512 / 256 = omega arith in rw c (omega arith)

      halves : x / 256 % 2 ≡ y / 256 % 2
      halves = half x ∙ (ap (λ (z : ℕ). z / 256) r ∙ sym (half y))

      kinds : x % 256 ≡ y % 256 → x / 256 % 2 ≡ y / 256 % 2 → x % 256 < G.n
          → pick (eqb (x / 256 % 2) 1) (starts_at S (x / 512) (x % 256)) (stops_at_of S (x / 512) (x % 256)) ≡ true
          → pick (eqb (y / 256 % 2) 1) (starts_at S (y / 512) (y % 256)) (stops_at_of S (y / 512) (y % 256)) ≡ true
          → (eqb (y / 256 % 2) 1 ≡ true) ⊎ (eqb (y / 256 % 2) 1 ≡ false) → ⊥
      kinds a s k p q (inl z) = starts-once (x / 512) (y / 512) (x % 256) k (omega arith) (rw (s, z) at p) (rw (z, ← a) at q)
      kinds a s k p q (inr z) = stops-once (x / 512) (y / 512) (x % 256) k (omega arith) (rw (s, z) at p) (rw (z, ← a) at q)

  few-records : (h : ℕ) → count (change G.n S) (512 * suc h) ≤ 8192
  few-records h = omega (arith, few_rests (change G.n S) 512 (lit< tt) apart (512 * suc h))

  -- ---- its log

  module _ (few : G.n ≤ 128) (E : Times G e) (small : (v : ℕ) → v < G.n → G.wcet v ≤ 1000000) (past : (v : ℕ) → G.n ≤ v → e v ≡ 0) where
    all : AllFinished G S (sum e G.n)
    unfolding list_schedule
    all = all_by W A C

    short : sum e G.n ≤ 128000000
    short = omega (arith, sum-most e 1000000 G.n (λ v b. omega (arith, E v b, small v b)))

    no-runs : (t v : ℕ) → G.n ≤ v → S.runs t v ≡ false
    no-runs t v b = not-true (S.runs t v) (λ x. wrong x)
      where
        none : left S t v ≡ 0
        none = unfold left list_schedule in omega (arith, left-later S 0 t v (omega arith), past v b)

        wrong : S.runs t v ≡ true → ⊥
        wrong x = unfold list_schedule in
            clash (chosen-ready G (steps G t (begin e)) v x) (ready-past W (steps G t (begin e)).rest v b (rw (left-steps G e t) at none))

    times : Times G S.time
    unfolding list_schedule
    times = E

    no-time : (v : ℕ) → G.n ≤ v → S.time v ≡ 0
    unfolding list_schedule
    no-time = past

    few_vertices : G.n ≤ 256
    few_vertices = omega arith

    -- THEOREM. The log of the list schedule records the list schedule,
    pub list-log-is : schedule_of (log_of G e) ≡ list_schedule G e
    unfolding log_of
    list-log-is = log_is W A C (sum e G.n) all few_vertices times short (few-records (sum e G.n)) no-runs no-time

    -- is accepted,
    pub list-log_conforms : Conforms G (log_of G e)
    unfolding log_of
    list-log_conforms = log_conforms W A C (sum e G.n) all few_vertices times short (few-records (sum e G.n)) no-runs no-time

    -- has the times of the run,
    pub list-log-times : (v : ℕ) → total (log_of G e) v ≡ e v
    list-log-times v = unfold schedule_of list_schedule in ap (λ (x : Schedule). x.time v) list-log-is

    -- and its finish.
    pub list-log-finish : Finish G (list_schedule G e) (finish_in_of G (log_of G e))
    unfolding log_of
    list-log-finish = log-finish W A C (sum e G.n) all few_vertices times short (few-records (sum e G.n)) no-runs no-time

    -- It is made of bytes.
    pub list-log-bytes : (i : ℕ) → get_or (log_of G e) i 0 < 256
    unfolding log_of
    list-log-bytes = log-bytes G.n S (sum e G.n) short

    -- It has two records of a vertex at most.
    pub list-log-short : length (log_of G e) ≤ 2048
    unfolding log_of
    list-log-short = omega (arith, log-length G.n S (sum e G.n), few_rests_of (change G.n S) 512 (lit< tt) apart (λ r. ltb (r % 256) 128) named (512 * suc (sum e G.n)), rests)
      where
        named : (x : ℕ) → change G.n S x ≡ true → ltb (x % 512 % 256) 128 ≡ true
        named x c = lt-ltb (x % 512 % 256) 128 (omega (arith, (change-of G.n S x c).0))

        rests : count (λ r. ltb (r % 256) 128) 512 ≡ 256
        rests = unfold count in refl
