-- THEOREM. The names of a list that names cores as it should are a placing that leaves no core idle, and the same as the log's schedule once they
-- are dropped. So the list computes what `given-cores` (the model's proofs/Cores) says there is, with a core for as long as a vertex runs on.
use mathlib.Core.Path.{◌≡◌, refl, sym, ◌∙◌}
use mathlib.Core.Bool.{Bool, true, false, ◌&&◌}
use mathlib.Core.List.{List}
use Prim.Native.Nat.{ℕ, ◌≤◌, ◌<◌}
use native.Mathlib.Omega.{arith}
use lib.ListN.{get_or}
use lib.Dec.{eqb}
use borrow.Author.Tests.{eq-eqb, eqb-true}
use Rattle.model.specs.Places.{any, count}
use Rattle.model.specs.Graph.{Graph, WellFormed}
use Rattle.model.specs.Cycle.{Acyclic}
use Rattle.model.specs.Schedule.{Schedule, left, Ready, WorkConserving}
use Rattle.model.specs.ListSchedule.{ready}
use Rattle.model.specs.Placing.{Placing, Runs, counted, Idle, Waiting, NoneIdle, Same, GivenCores}
use Rattle.model.proofs.Bools.{both, left-of, right_of, not-true, same_test}
use Rattle.model.proofs.Places.{any_intro, any_elim, any_none, count-le, count_less, count-sub}
use Rattle.model.proofs.Sums.{count-pairs}
use Rattle.model.proofs.Tests.{ready-tells}
use Rattle.model.proofs.Tick.{runs_of, full}
use Rattle.model.proofs.Same.{same_back, ready-same}
use Rattle.graph.specs.File.{records}
use Rattle.graph.specs.declared.Graph as file
use Rattle.graph.specs.Model.{as_model, AcceptedGraph}
use Rattle.recorded.specs.Log.{InForm}
use Rattle.recorded.specs.Recorded.{started_by, runs_in, schedule_of}
use Rattle.recorded.specs.Judge.{Conforms}
use Rattle.lanes.specs.Lanes.{last_that, core_in, lanes_of, Fits, Named, placing_of}
use Rattle.lanes.specs.Passing.{listed, Lists}
use Rattle.lanes.proofs.Naming.{last-start, started_whose, lanes_named}

-- a work-conserving schedule has no more of a kind running than cores
pub works_fits : {G : Graph} → WellFormed G → Acyclic G → (l : List ℕ) → WorkConserving G (schedule_of l) → Fits G.n l G.kind G.cores
unfolding schedule_of
works_fits {G} W A l C t v h =
    let S : Schedule = schedule_of l in
    omega (arith, C.busy t (G.kind v) (W.kind_known v h) (ready G (left S t)) (ready-tells W (left S t) A))

module _ {G : Graph} (W : WellFormed G) (A : Acyclic G) {l : List ℕ} (C : WorkConserving G (schedule_of l)) {out : List ℕ} (N : Named l G.kind G.cores out) where
  abbrev S : Schedule
  S = schedule_of l

  abbrev P : Placing
  P = placing_of G l out

  abbrev on : ℕ → ℕ → ℕ → ℕ → Bool
  on t s j v = (runs_in l t v && eqb (G.kind v) s) && eqb j (core_in l out t v)

  record On (t s j v : ℕ) : Type 0 where
    pub runs : runs_in l t v ≡ true
    pub own : G.kind v ≡ s
    pub core : j ≡ core_in l out t v

  on-elim : (t s j v : ℕ) → on t s j v ≡ true → On t s j v
  on-elim t s j v e =
      let a = left-of (runs_in l t v && eqb (G.kind v) s) _ e in
      record {
        runs = left-of (runs_in l t v) _ a;
        own = eqb-true (G.kind v) s (right_of (runs_in l t v) _ a);
        core = eqb-true j (core_in l out t v) (right_of (runs_in l t v && eqb (G.kind v) s) _ e);
      }

  on-intro : {t s j v : ℕ} → On t s j v → on t s j v ≡ true
  on-intro {t} {s} {j} {v} r =
      both (runs_in l t v && eqb (G.kind v) s) _ (both (runs_in l t v) _ r.runs (eq-eqb (G.kind v) s r.own)) (eq-eqb j (core_in l out t v) r.core)

  of : {t s j v : ℕ} → Runs G P t s j v → On t s j v
  unfolding placing_of
  of {t} {s} {j} {v} r = on-elim t s j v r.there

  -- the core of a vertex that runs is one that there is
  in-range : (t v : ℕ) → runs_in l t v ≡ true → core_in l out t v < G.cores (G.kind v)
  unfolding core_in
  in-range t v e = let x = last-start l t v e in rw (started_whose l t v _ x.there) at (N.within (last_that (started_by l v t) (records l)) x.within)

  given-one : (t v : ℕ) → v < G.n → runs_in l t v ≡ true → Runs G P t (G.kind v) (core_in l out t v) v
  unfolding placing_of
  given-one t v h e = record {
    kind_known = W.kind_known v h;
    core_known = in-range t v e;
    vertex_known = h;
    there = on-intro (record { runs = e; own = refl; core = refl });
  }

  pub named-same : Same G S (counted G P)
  unfolding schedule_of placing_of counted
  named-same = record {
    time = λ v h. refl;
    runs = λ t v h. same_test (runs_in l t v) (any (λ s. any (λ j. on t s j v) (G.cores s)) G.kinds)
        (λ e. any_intro (λ s. any (λ j. on t s j v) (G.cores s)) G.kinds (G.kind v) (W.kind_known v h)
        (any_intro (λ j. on t (G.kind v) j v) (G.cores (G.kind v)) (core_in l out t v) (in-range t v e) (on-intro (record { runs = e; own = refl; core = refl }))))
        (λ e. let a = any_elim (λ s. any (λ j. on t s j v) (G.cores s)) G.kinds e in
        let b = any_elim (λ j. on t a.0 j v) (G.cores a.0) a.2 in
        (on-elim t a.0 b.0 v b.2).runs);
  }

  -- Where a ready vertex waits, as many of its kind run as there are cores, each on another: no core is left.
  none_left : {t s j v : ℕ} → Idle G P t s j → Waiting G P t v → G.kind v ≡ s → ⊥
  unfolding schedule_of placing_of
  none_left {t} {s} {j} {v} i w e =
      let r : Ready G (left S t) v = ready-same W (same_back named-same) t v w.vertex_known w.is_ready in
      let waits : runs_in l t v ≡ false = not-true (runs_in l t v) (λ x. w.run_by_none _ _ (given-one t v w.vertex_known x)) in
      let all : count (runs_of G S t s) G.n ≡ G.cores s = rw e at (full W A C t v r w.vertex_known waits) in
      let idle : any (on t s j) G.n ≡ false = any_none (on t s j) G.n (λ u m. not-true (on t s j u) (λ x.
      i.runs_none u (record { kind_known = i.kind_known; core_known = i.core_known; vertex_known = m; there = x }))) in
      omega (
        arith,
        all,
        count-sub (runs_of G S t s) (λ u. any (λ j. on t s j u) (G.cores s)) G.n
            (λ u m x. let a = left-of (runs_in l t u) _ x in let q = eqb-true (G.kind u) s (right_of (runs_in l t u) _ x) in
            any_intro (λ j. on t s j u) (G.cores s) (core_in l out t u) (rw q at (in-range t u a)) (on-intro (record { runs = a; own = q; core = refl }))),
        count-pairs (on t s) (G.cores s) G.n
            (λ j u v a b c x y. let p = on-elim t s j u x in let q = on-elim t s j v y in
            N.apart t u v p.runs q.runs (p.own ∙ sym q.own) (sym p.core ∙ q.core))
            (λ j k v a b c x y. (on-elim t s j v x).core ∙ sym (on-elim t s k v y).core),
        count_less (λ j. any (on t s j) G.n) (λ j. true) j (G.cores s) i.core_known (λ k m x. refl) refl idle,
        count-le (λ j. true) (G.cores s),
      )

  pub named-none-idle : NoneIdle G P
  unfolding schedule_of
  named-none-idle = record {
    runs_ready = λ {t} {s} {j} {v} r. ready-same W named-same t v r.vertex_known (C.runs_ready t v r.vertex_known (of r).runs);
    own_kind = λ r. (of r).own;
    one_core = λ r q. (of r).core ∙ sym (of q).core;
    one_stage = λ {t} {s} {j} {u} {v} r q. N.apart t u v (of r).runs (of q).runs ((of r).own ∙ sym (of q).own) (sym (of r).core ∙ (of q).core);
    none_idle = none_left;
  }

-- THEOREM. A log that is accepted is given cores by its list.
module _ {G : Graph} (W : WellFormed G) (A : Acyclic G) (few : G.n ≤ 128) {l : List ℕ} (C : Conforms G l) where
  pub accepted-named : Named l G.kind G.cores (lanes_of G.n l G.kind G.cores)
  accepted-named = lanes_named C.in_form few G.kind G.cores (works_fits W A l C.conserving)

  pub accepted-given : GivenCores G (schedule_of l)
  accepted-given = record {
    placing = placing_of G l (lanes_of G.n l G.kind G.cores);
    none_idle = named-none-idle W A C.conserving accepted-named;
    same = named-same W A C.conserving accepted-named;
  }

-- what a caller with an accepted graph lends, and what the list is then
pub lent-lists : {g : file.Graph} → AcceptedGraph g → {l : List ℕ} → InForm g.n l → Lists g.n l g.kind g.cores
unfolding as_model
lent-lists {g} a f = record {
  few = a.few_vertices;
  in_form = f;
  known = λ v h. omega (arith, a.well_formed.kind_known v h, a.few_kinds);
  few_cores = λ v h. a.well_formed.few_cores (get_or g.kind v 0) (a.well_formed.kind_known v h);
}

pub lent-named : {g : file.Graph} → AcceptedGraph g → {l : List ℕ} → Conforms (as_model g) l
    → Named l (listed g.kind) (listed g.cores) (lanes_of g.n l (listed g.kind) (listed g.cores))
unfolding as_model
lent-named a C = accepted-named a.well_formed a.acyclic a.few_vertices C
