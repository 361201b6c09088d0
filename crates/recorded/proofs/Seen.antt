-- Where 22 has to be looked for: at instant 0 and at the log's instants, and at none from the last on.
--
-- Where no record is at an instant, the same vertices run in the tick before and in the tick after it. None ran out of ticks there: one that
-- does has its last tick before, and its stop at that instant. So the same are finished, the same are ready, and 22 holds there just where it
-- held an instant earlier.
use mathlib.Core.Path.{◌≡◌, refl, sym, ap₂, ◌∙◌, fun_ext}
use mathlib.Core.Logic.{◌⊎◌, inl, inr, ⊎_elim}
use mathlib.Core.Bool.{Bool, true, false, not, ◌&&◌}
use mathlib.Core.List.{List}
use Prim.Native.Nat.{ℕ, zero, suc, ◌≤◌, ◌<◌}
use native.Mathlib.Omega.{arith}
use native.Mathlib.Decide.{ℕ_discrete}
use lib.Dec.{eqb, ltb}
use Rattle.model.specs.Places.{any, count}
use Rattle.model.specs.Graph.{Graph, WellFormed}
use Rattle.model.specs.Cycle.{Acyclic}
use Rattle.model.specs.Schedule.{left}
use Rattle.model.specs.ListSchedule.{ready}
use Rattle.model.proofs.Bools.{clash, le-or-lt, left-of}
use Rattle.model.proofs.Places.{all-or-some, any_elim}
use Rattle.model.proofs.Finished.{ready-left}
use Rattle.model.proofs.Tests.{ready-tells, ready-zeros}
use Rattle.graph.specs.File.{records}
use Rattle.recorded.specs.Log.{instant_at, InForm}
use Rattle.recorded.specs.Recorded.{last_instant, runs_in, schedule_of}
use Rattle.recorded.specs.Rules.{waiting, rule22}
use Rattle.recorded.proofs.Recording.{same_runs, same-zeros, none_left}

-- a record is at the instant t, or none is
pub record-at : (l : List ℕ) (t : ℕ) → ((k : ℕ) → k < records l → instant_at l k ≡ t → ⊥) ⊎ ((k : ℕ) × (k < records l) × (instant_at l k ≡ t))
record-at l t = all-or-some (λ k. instant_at l k ≡ t → ⊥) (λ k. instant_at l k ≡ t) (records l) (λ k h. turn k (ℕ_discrete (instant_at l k) t))
  where
    turn : (k : ℕ) → Dec (instant_at l k ≡ t) → (instant_at l k ≡ t → ⊥) ⊎ (instant_at l k ≡ t)
    turn k (yes e) = inr e
    turn k (no x) = inl x

module _ (G : Graph) {l : List ℕ} (f : InForm G.n l) where
  -- nothing changes where no record is
  pub idle-on : (t : ℕ) → ((k : ℕ) → k < records l → instant_at l k ≡ suc t → ⊥) → rule22 G l (suc t) ≡ rule22 G l t
  unfolding rule22 waiting
  idle-on t quiet =
      ap₂ {C = Bool} (λ (r : ℕ → Bool) (x : ℕ → Bool).
      any (λ v. (r v && not (x v)) && ltb (count (λ u. x u && eqb (G.kind u) (G.kind v)) G.n) (G.cores (G.kind v))) G.n)
      (fun_ext (ready-zeros G (left (schedule_of l) (suc t)) (left (schedule_of l) t) (same-zeros f t quiet)))
      (fun_ext (same_runs l t quiet))

  -- THEOREM. The first instant that 22 holds for is 0 or an instant of the log.
  pub first-idle : (t : ℕ) → rule22 G l t ≡ true → ((i : ℕ) → i < t → rule22 G l i ≡ false) → (t ≡ 0) ⊎ ((k : ℕ) × (k < records l) × (instant_at l k ≡ t))
  first-idle zero e h = inl refl
  first-idle (suc t) e h = ⊎_elim (λ quiet. absurd (clash (sym (idle-on t quiet) ∙ e) (h t (omega arith)))) (λ r. inr r) (record-at l (suc t))

  -- THEOREM. Where 22 holds neither at instant 0 nor at an instant of the log, it holds at none.
  pub idle-seen : rule22 G l 0 ≡ false → ((k : ℕ) → k < records l → rule22 G l (instant_at l k) ≡ false) → (t : ℕ) → rule22 G l t ≡ false
  idle-seen z h zero = z
  idle-seen z h (suc t) = go (record-at l (suc t)) (idle-seen z h t)
    where
      go : ((k : ℕ) → k < records l → instant_at l k ≡ suc t → ⊥) ⊎ ((k : ℕ) × (k < records l) × (instant_at l k ≡ suc t)) → rule22 G l t ≡ false
          → rule22 G l (suc t) ≡ false
      go (inl quiet) ih = idle-on t quiet ∙ ih
      go (inr r) ih = rw r.2 at (h r.0 r.1)

  -- THEOREM. 22 holds before the last instant alone: from it on all is finished.
  pub idle-before : WellFormed G → Acyclic G → (t : ℕ) → rule22 G l t ≡ true → t < last_instant l
  unfolding rule22 waiting
  idle-before W A t e =
      let r = any_elim (λ v. waiting G l t v && ltb (count (λ u. runs_in l t u && eqb (G.kind u) (G.kind v)) G.n) (G.cores (G.kind v))) G.n e in
      let v = r.0 in
      let d = left-of (ready G (left (schedule_of l) t) v) (not (runs_in l t v))
      (left-of (waiting G l t v) (ltb (count (λ u. runs_in l t u && eqb (G.kind u) (G.kind v)) G.n) (G.cores (G.kind v))) r.2) in
      ⊎_elim (λ (m : last_instant l ≤ t). absurd (omega (arith, ready-left ((ready-tells W (left (schedule_of l) t) A).sound v r.1 d), none_left f t v m)))
      (λ m. m) (le-or-lt (last_instant l) t)
