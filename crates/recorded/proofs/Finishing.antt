-- The finish of a log in form: all is finished at the log's last instant, and not before.
--
-- The last record is a stop, since nothing runs at the end. Its vertex ran in the tick before, so that it had a tick left at every earlier
-- instant.
use mathlib.Core.Path.{◌≡◌, refl}
use mathlib.Core.Logic.{⊎_elim}
use mathlib.Core.Bool.{true}
use mathlib.Core.List.{List}
use Prim.Native.Nat.{ℕ, zero, suc, ◌-◌, ◌≤◌, ◌<◌}
use native.Mathlib.Omega.{arith}
use native.Mathlib.Decide.{ℕ_discrete}
use Rattle.model.specs.Places.{first, every}
use Rattle.model.specs.Graph.{Graph, WellFormed}
use Rattle.model.specs.Cycle.{Acyclic}
use Rattle.model.specs.Schedule.{left, AllFinished, Finish}
use Rattle.model.specs.ListSchedule.{finished}
use Rattle.model.proofs.Bools.{clash, not-true}
use Rattle.model.proofs.Places.{first-none, every-at}
use Rattle.model.proofs.Sums.{largest-within}
use Rattle.model.proofs.Cycles.{ranked}
use Rattle.model.proofs.Finished.{ancestor_fin, fin_left, left-later}
use Rattle.model.proofs.Tests.{finished-tells}
use Rattle.graph.specs.File.{records}
use Rattle.recorded.specs.Log.{is_start, is_stop, who, instant_at, starts, stops, InForm}
use Rattle.recorded.specs.Recorded.{last_instant, runs_in, schedule_of, finish_in_of}
use Rattle.recorded.proofs.Records.{Lasting, running_elim, start_of, fine-at, instants_rise, start-then-stop}
use Rattle.recorded.proofs.Recording.{runs_intro, last-most, none_after, none_left, runs-left, start-runs}

pub last_none : (l : List ℕ) → records l ≡ 0 → last_instant l ≡ 0
unfolding last_instant
last_none l e = omega (arith, largest-within (instant_at l) 0 (records l) (λ v h. absurd (omega arith)))

module _ {n : ℕ} {l : List ℕ} (f : InForm n l) (few : n ≤ 256) where
  -- the last instant is that of the last record
  pub last-is : (k : ℕ) → records l ≡ suc k → last_instant l ≡ instant_at l k
  unfolding last_instant
  last-is k e =
      omega (
        arith,
        last-most l k (omega arith),
        largest-within (instant_at l) (instant_at l k) (records l) (λ i h. at i h (ℕ_discrete i k)),
      )
    where
      at : (i : ℕ) → i < records l → Dec (i ≡ k) → instant_at l i ≤ instant_at l k
      at i h (yes q) = rw q (omega arith)
      at i h (no q) = instants_rise f few i k (omega arith) (omega arith)

  -- a vertex runs in the tick that ends at the last instant
  pub last_runs : 0 < last_instant l → (v : ℕ) × (v < n) × (runs_in l (last_instant l - 1) v ≡ true)
  last_runs pos = go (records l) refl
    where
      -- it is the vertex of the last record
      ends : (k : ℕ) → records l ≡ suc k → k < records l → last_instant l ≡ instant_at l k → is_stop l k ≡ true
          → Lasting (starts l (who l k)) (stops l (who l k)) k → (v : ℕ) × (v < n) × (runs_in l (last_instant l - 1) v ≡ true)
      ends k e h q s r =
          let w = start_of l (who l k) r.from r.is in (
            who l k,
            (fine-at f k h).vertex,
            runs_intro l (last_instant l - 1) (who l k) (record {
              from = r.from;
              within = omega (arith, r.within);
              start = w.0;
              whose = w.1;
              begun = omega (arith, start-then-stop f few r.from k r.within h w.0 s);
              on = λ j a b x. later j a b x (ℕ_discrete j k);
            }),
          )
        where
          later : (j : ℕ) → r.from < j → j < records l → stops l (who l k) j ≡ true → Dec (j ≡ k) → last_instant l - 1 < instant_at l j
          later j a b x (yes y) = rw y (omega arith)
          later j a b x (no y) = absurd (clash x (r.on j a (omega arith)))

      go : (m : ℕ) → records l ≡ m → (v : ℕ) × (v < n) × (runs_in l (last_instant l - 1) v ≡ true)
      go zero e = absurd (omega (arith, last_none l e))
      go (suc k) e =
          let h : k < records l = omega arith in
          let q : last_instant l ≡ instant_at l k = last-is k e in
          ⊎_elim
          (λ (s : is_start l k ≡ true). absurd (clash (start-runs f few k h s) (none_after f (instant_at l k) (who l k) (omega arith))))
          (λ (s : is_stop l k ≡ true). ends k e h q s (running_elim l k (who l k) ((fine-at f k h).stop s)))
          (fine-at f k h).known

module _ {G : Graph} (W : WellFormed G) (A : Acyclic G) (few : G.n ≤ 256) {l : List ℕ} (f : InForm G.n l) where
  -- THEOREM. The finish of a log in form is its last instant.
  pub finish-last : Finish G (schedule_of l) (last_instant l)
  finish-last = record {
    all = λ v h. ancestor_fin W (left (schedule_of l) (last_instant l)) (ranked W A) v
        (none_left f (last_instant l) v (omega arith)) (λ u x. none_left f (last_instant l) u (omega arith));
    first = λ t h a. early t h a (last_runs f few (omega arith));
  }
    where
      early : (t : ℕ) → t < last_instant l → AllFinished G (schedule_of l) t → (v : ℕ) × (v < G.n) × (runs_in l (last_instant l - 1) v ≡ true) → ⊥
      early t h a r =
          omega (
            arith,
            fin_left (a r.0 r.1),
            runs-left f (last_instant l - 1) r.0 r.2,
            left-later (schedule_of l) t (last_instant l - 1) r.0 (omega arith),
          )

  pub finish_in : finish_in_of G l ≡ last_instant l
  unfolding finish_in_of
  finish_in = first-none (λ t. every (finished G (left (schedule_of l) t)) G.n) (last_instant l)
      (λ t h. not-true (every (finished G (left (schedule_of l) t)) G.n)
      (λ e. finish-last.first t h (λ v m. (finished-tells W (left (schedule_of l) t) A).sound v m (every-at (finished G (left (schedule_of l) t)) G.n e v m))))

  -- THEOREM. What is handed back as the finish is the finish of the schedule.
  pub finish-is : Finish G (schedule_of l) (finish_in_of G l)
  finish-is = rw finish_in finish-last
