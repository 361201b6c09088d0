-- An empty log is the run with all times 0.
use mathlib.Core.Path.{◌≡◌, refl}
use mathlib.Core.Bool.{false, ◌&&◌}
use mathlib.Core.List.{[]}
use Prim.Native.Nat.{ℕ, ◌≤◌, zero-le}
use native.Mathlib.Omega.{arith}
use lib.Dec.{eqb}
use Rattle.model.specs.Places.{largest}
use Rattle.model.specs.Graph.{Graph, WellFormed}
use Rattle.model.specs.Cycle.{Acyclic}
use Rattle.model.specs.Schedule.{left, Finished}
use Rattle.model.proofs.Bools.{clash, not-true, left-of}
use Rattle.model.proofs.Places.{any_none, count_none}
use Rattle.model.proofs.Cycles.{ranked}
use Rattle.model.proofs.Finished.{ancestor_fin}
use Rattle.recorded.specs.Log.{running, wrong_length_of, unended, InForm}
use Rattle.recorded.specs.Recorded.{last_instant, runs_in, ran_ticks, total, schedule_of, finish_in_of}
use Rattle.recorded.specs.Judge.{Conforms}
use Rattle.recorded.proofs.Records.{running_elim}
use Rattle.recorded.proofs.Recording.{runs_elim, none_left}
use Rattle.recorded.proofs.Finishing.{finish_in}

empty_form : (n : ℕ) → InForm n []
unfolding wrong_length_of unended
empty_form n = record {
  right_length = refl;
  no_fault = λ k h. absurd (omega arith);
  all_stopped = any_none (running [] 0) n (λ v b. not-true (running [] 0 v) (λ e. omega (arith, (running_elim [] 0 v e).within)));
}

empty_runs : (t v : ℕ) → runs_in [] t v ≡ false
empty_runs t v = not-true (runs_in [] t v) (λ e. omega (arith, (runs_elim [] t v e).within))

pub empty-times : (v : ℕ) → total [] v ≡ 0
unfolding total ran_ticks last_instant largest
empty-times v = count_none (λ t. runs_in [] t v) 0 (λ t b. empty_runs t v)

-- THEOREM. The empty log is the work-conserving schedule in which nothing takes any time.
pub empty_conforms : {G : Graph} → WellFormed G → Acyclic G → Conforms G []
unfolding schedule_of
empty_conforms {G} W A = record {
  in_form = empty_form G.n;
  conserving = record {
    runs_ready = λ t v b e. absurd (clash e (empty_runs t v));
    busy = λ t s k test T. omega (
      arith,
      count_none (λ v. runs_in [] t v && eqb (G.kind v) s) G.n (λ v b. not-true _ (λ e. clash (left-of (runs_in [] t v) (eqb (G.kind v) s) e) (empty_runs t v))),
      count_none (λ v. test v && eqb (G.kind v) s) G.n (λ v b. not-true _ (λ e. (T.sound v b (left-of (test v) (eqb (G.kind v) s) e)).unfinished (done t v))),
    );
  };
  in_time = λ v b. omega (arith, empty-times v);
}
  where
    none : (t v : ℕ) → left (schedule_of []) t v ≡ 0
    none t v = none_left (empty_form G.n) t v (unfold last_instant largest in zero-le)

    done : (t v : ℕ) → Finished G (left (schedule_of []) t) v
    done t v = ancestor_fin W (left (schedule_of []) t) (ranked W A) v (none t v) (λ u x. none t u)

-- THEOREM. Its finish is 0.
pub empty-finish : {G : Graph} → WellFormed G → Acyclic G → G.n ≤ 256 → finish_in_of G [] ≡ 0
unfolding last_instant largest
empty-finish {G} W A few = finish_in W A few (empty_form G.n)
