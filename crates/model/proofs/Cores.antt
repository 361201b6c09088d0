-- Schedules that name their cores and schedules that count them are one: a placing that leaves no core idle is work conserving once the names
-- are dropped, and every work-conserving schedule can be given cores. So demand 3 holds of every schedule that names its cores.
use mathlib.Core.Path.{◌≡◌, refl, sym, ◌∙◌}
use mathlib.Core.Logic.{◌⊎◌, inl, inr}
use mathlib.Core.Bool.{Bool, true, false, ◌&&◌}
use Prim.Native.Nat.{ℕ, suc, ◌≤◌, ◌<◌, min}
use native.Mathlib.Omega.{arith}
use lib.Dec.{eqb}
use borrow.Author.Tests.{eq-eqb, eqb-true}
use Rattle.model.specs.Places.{count, any, Tells}
use Rattle.model.specs.Graph.{Graph, WellFormed}
use Rattle.model.specs.Cycle.{Acyclic}
use Rattle.model.specs.Bounds.{NewB1}
use Rattle.model.specs.Schedule.{Schedule, left, Ready, Times, WorkConserving, EndsBy}
use Rattle.model.specs.ListSchedule.{ready}
use Rattle.model.specs.Placing.{Placing, Runs, counted, Idle, Waiting, NoneIdle, Same, GivenCores}
use Rattle.model.proofs.Bools.{cases, clash, both, left-of, right_of, not-true, same_test}
use Rattle.model.proofs.Places.{all-or-some, any_intro, any_elim, any_false, count_ext, count-le, count-all, count-sub, count-up, count-there, count-nth, count-apart}
use Rattle.model.proofs.Sums.{count-pairs}
use Rattle.model.proofs.Tests.{ready-tells}
use Rattle.model.proofs.Tick.{runs_of, full}
use Rattle.model.proofs.Same.{same_back, ready-same, works_same}
use Rattle.model.proofs.Demand3.{demand_3}

-- a vertex runs exactly where some core runs it
module _ (G : Graph) (P : Placing) (t v : ℕ) where
  counted-runs : {s j : ℕ} → Runs G P t s j v → (counted G P).runs t v ≡ true
  unfolding counted
  counted-runs {s} {j} r =
      any_intro (λ s. any (λ j. P.on t s j v) (G.cores s)) G.kinds s r.kind_known
      (any_intro (λ j. P.on t s j v) (G.cores s) j r.core_known r.there)

  run_by : v < G.n → (counted G P).runs t v ≡ true → (s : ℕ) × (j : ℕ) × Runs G P t s j v
  unfolding counted
  run_by l e =
      let a = any_elim (λ s. any (λ j. P.on t s j v) (G.cores s)) G.kinds e in
      let b = any_elim (λ j. P.on t a.0 j v) (G.cores a.0) a.2 in
      (a.0, b.0, record { kind_known = a.1; core_known = b.1; vertex_known = l; there = b.2 })

-- ---- names dropped

-- Each core of kind s is paired with the vertex that it runs: a core with one at most, and a vertex with one core at most. So as many vertices
-- of the kind run as cores of it run something. Where every core does, as many run as there are cores, all of them ready; where a core is idle, no
-- ready vertex of the kind waits, so as many run as are ready. Either way that is the smaller of the two numbers.
module _ {G : Graph} {P : Placing} (N : NoneIdle G P) (t s : ℕ) (known : s < G.kinds) where
  abbrev used : ℕ → Bool
  used j = any (P.on t s j) G.n

  runs : {j v : ℕ} → j < G.cores s → v < G.n → P.on t s j v ≡ true → Runs G P t s j v
  runs l m e = record { kind_known = known; core_known = l; vertex_known = m; there = e }

  of-one-kind : (v : ℕ) → v < G.n → runs_of G (counted G P) t s v ≡ any (λ j. P.on t s j v) (G.cores s)
  of-one-kind v l = same_test (runs_of G (counted G P) t s v) (any (λ j. P.on t s j v) (G.cores s)) there back
    where
      there : runs_of G (counted G P) t s v ≡ true → any (λ j. P.on t s j v) (G.cores s) ≡ true
      there e =
          let r = run_by G P t v l (left-of ((counted G P).runs t v) _ e) in
          let q : r.0 ≡ s = sym (N.own_kind r.2) ∙ eqb-true (G.kind v) s (right_of ((counted G P).runs t v) _ e) in
          rw (← q) (any_intro (λ j. P.on t r.0 j v) (G.cores r.0) r.1 r.2.core_known r.2.there)

      back : any (λ j. P.on t s j v) (G.cores s) ≡ true → runs_of G (counted G P) t s v ≡ true
      back e =
          let a = any_elim (λ j. P.on t s j v) (G.cores s) e in
          let r = runs a.1 l a.2 in
          both ((counted G P).runs t v) (eqb (G.kind v) s) (counted-runs G P t v r) (eq-eqb (G.kind v) s (N.own_kind r))

  many : count (runs_of G (counted G P) t s) G.n ≡ count used (G.cores s)
  many =
      count_ext _ _ G.n of-one-kind
      ∙ count-pairs (P.on t s) (G.cores s) G.n
      (λ j u v l a b x y. N.one_stage (runs l a x) (runs l b y)) (λ j k v a b l x y. N.one_core (runs a l x) (runs b l y))

  module _ (ready : ℕ → Bool) (T : Tells G.n (Ready G (left (counted G P) t)) ready) where
    abbrev readyOf : ℕ → Bool
    readyOf v = ready v && eqb (G.kind v) s

    no_more : count (runs_of G (counted G P) t s) G.n ≤ count readyOf G.n
    no_more = count-sub _ _ G.n (λ v l x.
        let r = run_by G P t v l (left-of ((counted G P).runs t v) _ x) in
        both (ready v) (eqb (G.kind v) s) (T.complete v l (N.runs_ready r.2)) (right_of ((counted G P).runs t v) _ x))

    no-fewer : (j : ℕ) → Idle G P t s j → count readyOf G.n ≤ count (runs_of G (counted G P) t s) G.n
    no-fewer j i = count-sub _ _ G.n (λ v l x. both ((counted G P).runs t v) (eqb (G.kind v) s) (running v l x (cases ((counted G P).runs t v))) (right_of (ready v) _ x))
      where
        running : (v : ℕ) → v < G.n → readyOf v ≡ true → ((counted G P).runs t v ≡ true) ⊎ ((counted G P).runs t v ≡ false) → (counted G P).runs t v ≡ true
        running v l x (inl e) = e
        running v l x (inr e) = absurd (N.none_idle i
            (record { vertex_known = l; is_ready = T.sound v l (left-of (ready v) _ x); run_by_none = λ s j r. clash (counted-runs G P t v r) e })
            (eqb-true (G.kind v) s (right_of (ready v) _ x)))

    as_many : count (runs_of G (counted G P) t s) G.n ≡ min (G.cores s) (count readyOf G.n)
    as_many = go (all-or-some (λ j. used j ≡ true) (λ j. used j ≡ false) (G.cores s) (λ j l. cases (used j)))
      where
        go : ((j : ℕ) → j < G.cores s → used j ≡ true) ⊎ ((j : ℕ) × (j < G.cores s) × (used j ≡ false))
            → count (runs_of G (counted G P) t s) G.n ≡ min (G.cores s) (count readyOf G.n)
        go (inl all) = omega (arith, many, count-all used (G.cores s) all, no_more)
        go (inr i) = omega (
          arith,
          many,
          count-le used (G.cores s),
          no_more,
          no-fewer i.0 (record {
            kind_known = known;
            core_known = i.1;
            runs_none = λ v r. clash r.there (any_false (P.on t s i.0) G.n v r.vertex_known i.2);
          }),
        )

-- THEOREM. A placing that leaves no core idle is work conserving once the names are dropped.
pub counted_works : {G : Graph} {P : Placing} → NoneIdle G P → WorkConserving G (counted G P)
counted_works {G} {P} N = record {
  runs_ready = λ t v l e. N.runs_ready (run_by G P t v l e).2;
  busy = λ t s l ready T. as_many N t s l ready T;
}

-- THEOREM (demand 3 for every schedule that names its cores). For all times from 0 to the WCETs, a schedule that gives a vertex one core at a
-- time and a core one vertex, and at every tick leaves no core of a kind idle while a ready vertex of that kind waits, ends by NEW-B-1.
pub named_demand_3 : {G : Graph} → WellFormed G → Acyclic G → (P : Placing) → Times G P.time → NoneIdle G P → (B : ℕ) → NewB1 G B → EndsBy G (counted G P) B
unfolding counted
named_demand_3 W A P e N B b = demand_3 W A e (counted_works N) B b

-- ---- names given

-- A vertex that runs gets the core whose number is how many vertices before it, of its kind, run too. That number is below the number of those that
-- run, which is at most that of the cores, and no two vertices of a kind share one. Where a ready vertex of the kind waits, as many run as there
-- are cores: then each core's number is some vertex's, and no core is idle.
placed : Graph → Schedule → Placing
placed G S = record { time = S.time; on = λ t s j v. runs_of G S t s v && eqb j (count (runs_of G S t s) v) }

module _ {G : Graph} (W : WellFormed G) (A : Acyclic G) {S : Schedule} (C : WorkConserving G S) where
  of-kind : {t s j v : ℕ} → Runs G (placed G S) t s j v → runs_of G S t s v ≡ true
  unfolding placed
  of-kind {t} {s} {j} {v} r = left-of (runs_of G S t s v) _ r.there

  its-core : {t s j v : ℕ} → Runs G (placed G S) t s j v → j ≡ count (runs_of G S t s) v
  unfolding placed
  its-core {t} {s} {j} {v} r = eqb-true j (count (runs_of G S t s) v) (right_of (runs_of G S t s v) _ r.there)

  on-core : {t s j v : ℕ} → s < G.kinds → j < G.cores s → v < G.n → runs_of G S t s v ≡ true → count (runs_of G S t s) v ≡ j → Runs G (placed G S) t s j v
  unfolding placed
  on-core {t} {s} {j} {v} k c l own e = record {
    kind_known = k;
    core_known = c;
    vertex_known = l;
    there = both (runs_of G S t s v) _ own (eq-eqb j (count (runs_of G S t s) v) (sym e));
  }

  given-one : (t v : ℕ) → v < G.n → S.runs t v ≡ true → Runs G (placed G S) t (G.kind v) (count (runs_of G S t (G.kind v)) v) v
  given-one t v l e =
      let k : G.kind v < G.kinds = W.kind_known v l in
      let own : runs_of G S t (G.kind v) v ≡ true = both (S.runs t v) _ e (eq-eqb (G.kind v) (G.kind v) refl) in
      let below : count (runs_of G S t (G.kind v)) v < G.cores (G.kind v) = omega (
        arith,
        C.busy t (G.kind v) k (ready G (left S t)) (ready-tells W (left S t) A),
        count-there (runs_of G S t (G.kind v)) v own,
        count-up (runs_of G S t (G.kind v)) (suc v) G.n l,
      ) in
      on-core k below l own refl

  placed_same : Same G S (counted G (placed G S))
  unfolding placed counted
  placed_same = record {
    time = λ v l. refl;
    runs = λ t v l. same_test (S.runs t v) ((counted G (placed G S)).runs t v)
        (λ e. counted-runs G (placed G S) t v (given-one t v l e))
        (λ e. left-of (S.runs t v) _ (of-kind (run_by G (placed G S) t v l e).2));
  }

  none_left : {t s j v : ℕ} → Idle G (placed G S) t s j → Waiting G (placed G S) t v → G.kind v ≡ s → ⊥
  none_left {t} {s} {j} {v} i w e =
      let r : Ready G (left S t) v = ready-same W (same_back placed_same) t v w.vertex_known w.is_ready in
      let waits : S.runs t v ≡ false = not-true (S.runs t v) (λ x. w.run_by_none _ _ (given-one t v w.vertex_known x)) in
      let all : count (runs_of G S t s) G.n ≡ G.cores s = rw e at (full W A C t v r w.vertex_known waits) in
      let u = count-nth (runs_of G S t s) G.n j (omega (arith, i.core_known)) in
      i.runs_none u.0 (on-core i.kind_known i.core_known u.1 u.2 u.3)

  placed-none-idle : NoneIdle G (placed G S)
  placed-none-idle = record {
    runs_ready = λ r. ready-same W placed_same _ _ r.vertex_known (C.runs_ready _ _ r.vertex_known (left-of (S.runs _ _) _ (of-kind r)));
    own_kind = λ {t} {s} {j} {v} r. eqb-true (G.kind v) s (right_of (S.runs t v) _ (of-kind r));
    one_core = λ r q. its-core r ∙ sym (its-core q);
    one_stage = λ {t} {s} {j} {u} {v} r q. count-apart (runs_of G S t s) u v (of-kind r) (of-kind q) (sym (its-core r) ∙ its-core q);
    none_idle = none_left;
  }

-- THEOREM. Every work-conserving schedule can be given cores.
pub given-cores : {G : Graph} → WellFormed G → Acyclic G → {S : Schedule} → WorkConserving G S → GivenCores G S
given-cores {G} W A {S} C = record { placing = placed G S; none_idle = placed-none-idle W A C; same = placed_same W A C }

-- THEOREM. And a schedule that can be given cores is work conserving.
pub cores_work : {G : Graph} → WellFormed G → {S : Schedule} → GivenCores G S → WorkConserving G S
cores_work W g = works_same W (same_back g.same) (counted_works g.none_idle)
