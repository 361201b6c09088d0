-- The list schedule is work conserving, while work remains someone runs, and it ends.
use mathlib.Core.Path.{◌≡◌, refl, ap, ◌∙◌, fun_ext}
use mathlib.Core.Bool.{Bool, true, false, not, ◌&&◌, ◌||◌}
use Prim.Native.Nat.{ℕ, zero, suc, ◌+◌, ◌-◌, ◌≤◌, ◌<◌, min}
use native.Mathlib.Omega.{arith}
use native.Mathlib.Decide.{ℕ_discrete}
use lib.Dec.{eqb, ltb}
use borrow.Author.Tests.{eq-eqb, ne_eqb}
use Rattle.model.specs.Places.{pick, bit, sum, count, Tells}
use Rattle.model.specs.Graph.{Graph, WellFormed}
use Rattle.model.specs.Cycle.{Acyclic}
use Rattle.model.specs.Bounds.{NewB1}
use Rattle.model.specs.Schedule.{Schedule, left, Finished, Ready, Times, WorkConserving, Finish, EndsBy}
use Rattle.model.specs.ListSchedule.{ready, State, goes_on_next, waits, chosen, leap, begin, steps, list_schedule, Fair}
use Rattle.model.proofs.Bools.{both, left-of, right_of}
use Rattle.model.proofs.Places.{count_ext, count-sub, count_none, count_split, count_firsts, count-some, some-counted}
use Rattle.model.proofs.Cycles.{ranked}
use Rattle.model.proofs.Paths.{head-known, to_sink}
use Rattle.model.proofs.Finished.{to-ready}
use Rattle.model.proofs.Tests.{ready-tells, tells-same}
use Rattle.model.proofs.Tick.{all_by}
use Rattle.model.proofs.Demand3.{finish_by, demand_3}

-- ---- how many are chosen

module _ (G : Graph) (s : State) where
  pub chosen-ready : (v : ℕ) → chosen G s v ≡ true → ready G s.rest v ≡ true
  unfolding chosen
  chosen-ready v t = left-of (ready G s.rest v) _ t

  -- those of kind k that are chosen: the ones that go on, and the first of those that wait
  parted : (k v : ℕ) → bit (chosen G s v && eqb (G.kind v) k) ≡ bit (goes_on_next G s k v) + bit (waits G s k v && ltb (count (waits G s k) v) (G.cores k - count (goes_on_next G s k) G.n))
  unfolding chosen goes_on_next waits
  parted k v = go (ℕ_discrete (G.kind v) k)
    where
      same_kind : (r b l q : Bool) → bit ((r && (b || l)) && q) ≡ bit ((r && b) && q) + bit (((r && not b) && q) && l)
      same_kind false b l q = omega arith
      same_kind true true l q = omega arith
      same_kind true false true true = omega arith
      same_kind true false true false = omega arith
      same_kind true false false true = omega arith
      same_kind true false false false = omega arith

      none : (a : Bool) → a && false ≡ false
      none true = refl
      none false = refl

      go : Dec (G.kind v ≡ k) → bit (chosen G s v && eqb (G.kind v) k) ≡ bit (goes_on_next G s k v) + bit (waits G s k v && ltb (count (waits G s k) v) (G.cores k - count (goes_on_next G s k) G.n))
      go (yes e) = rw (← e) (same_kind (ready G s.rest v) (s.ran v) (ltb (count (waits G s (G.kind v)) v) (G.cores (G.kind v) - count (goes_on_next G s (G.kind v)) G.n)) (eqb (G.kind v) (G.kind v)))
      go (no x) = rw (ne_eqb (G.kind v) k x, none (chosen G s v), none (ready G s.rest v && s.ran v), none (ready G s.rest v && not (s.ran v))) refl

  -- those of kind k that are ready: the ones that go on and the ones that wait
  ready-parted : (k v : ℕ) → bit (ready G s.rest v && eqb (G.kind v) k) ≡ bit (goes_on_next G s k v) + bit (waits G s k v)
  unfolding goes_on_next waits
  ready-parted k v = go (ready G s.rest v) (s.ran v) (eqb (G.kind v) k)
    where
      go : (r b q : Bool) → bit (r && q) ≡ bit ((r && b) && q) + bit ((r && not b) && q)
      go false b q = omega arith
      go true true q = omega arith
      go true false q = omega arith

  -- no more go on than have a mark
  goes-on-fair : Fair G s → (k : ℕ) → k < G.kinds → count (goes_on_next G s k) G.n ≤ G.cores k
  unfolding goes_on_next
  goes-on-fair f k l =
      omega (
        arith,
        f k l,
        count-sub (goes_on_next G s k) (λ v. s.ran v && eqb (G.kind v) k) G.n
            (λ v m t. both (s.ran v) (eqb (G.kind v) k)
            (right_of (ready G s.rest v) _ (left-of (ready G s.rest v && s.ran v) _ t)) (right_of (ready G s.rest v && s.ran v) _ t)),
      )

  -- of each kind, as many are chosen as the smaller of its cores and the number ready
  pub chosen-count : Fair G s → (k : ℕ) → k < G.kinds
      → count (λ v. chosen G s v && eqb (G.kind v) k) G.n ≡ min (G.cores k) (count (λ v. ready G s.rest v && eqb (G.kind v) k) G.n)
  chosen-count f k l =
      omega (
        arith,
        goes-on-fair f k l,
        count_firsts (waits G s k) (G.cores k - count (goes_on_next G s k) G.n) G.n,
        count_split (λ v. chosen G s v && eqb (G.kind v) k) (goes_on_next G s k)
            (λ v. waits G s k v && ltb (count (waits G s k) v) (G.cores k - count (goes_on_next G s k) G.n)) G.n (λ v m. parted k v),
        count_split (λ v. ready G s.rest v && eqb (G.kind v) k) (goes_on_next G s k) (waits G s k) G.n (λ v m. ready-parted k v),
      )

  pub fair-leap : Fair G s → (d : ℕ) → Fair G (leap G d s)
  unfolding leap
  fair-leap f d k l =
      omega (
        arith,
        chosen-count f k l,
        count-sub (λ v. (leap G d s).ran v && eqb (G.kind v) k) (λ v. chosen G s v && eqb (G.kind v) k) G.n
            (λ v m t. both (chosen G s v) (eqb (G.kind v) k) (left-of (chosen G s v) _ (left-of ((leap G d s).ran v) _ t)) (right_of ((leap G d s).ran v) _ t)),
      )

pub fair-begin : (G : Graph) (e : ℕ → ℕ) → Fair G (begin e)
fair-begin G e k l = omega (arith, count_none (λ v. false && eqb (G.kind v) k) G.n (λ v m. refl))

pub fair-steps : (G : Graph) (s : State) → Fair G s → (t : ℕ) → Fair G (steps G t s)
unfolding steps
fair-steps G s f zero = f
fair-steps G s f (suc t) = fair-leap G (steps G t s) (fair-steps G s f t) 1

-- ---- as a schedule

pick_one : (b : Bool) → pick {A = ℕ} b 1 0 ≡ bit b
pick_one true = refl
pick_one false = refl

-- what is left in the list schedule is what the states have
left_at : (G : Graph) (e : ℕ → ℕ) (t v : ℕ) → left (list_schedule G e) t v ≡ (steps G t (begin e)).rest v
unfolding left list_schedule steps leap
left_at G e zero v = refl
left_at G e (suc t) v = rw (left_at G e t v, pick_one) refl

pub left-steps : (G : Graph) (e : ℕ → ℕ) (t : ℕ) → left (list_schedule G e) t ≡ (steps G t (begin e)).rest
left-steps G e t = fun_ext (left_at G e t)

-- THEOREM. The list schedule is work conserving at every instant, from any times.
pub list_works : {G : Graph} → WellFormed G → Acyclic G → (e : ℕ → ℕ) → WorkConserving G (list_schedule G e)
unfolding list_schedule
list_works {G} W A e = record { runs_ready = run-ready; busy = all-busy }
  where
    run-ready : (t v : ℕ) → v < G.n → chosen G (steps G t (begin e)) v ≡ true → Ready G (left (list_schedule G e) t) v
    run-ready t v l x = rw (left-steps G e t) ((ready-tells W (steps G t (begin e)).rest A).sound v l (chosen-ready G (steps G t (begin e)) v x))

    all-busy : (t k : ℕ) → k < G.kinds → (test : ℕ → Bool) → Tells G.n (Ready G (left (list_schedule G e) t)) test
        → count (λ v. chosen G (steps G t (begin e)) v && eqb (G.kind v) k) G.n ≡ min (G.cores k) (count (λ v. test v && eqb (G.kind v) k) G.n)
    all-busy t k l test h =
        let c : ℕ → ℕ = (steps G t (begin e)).rest in
        let same : (v : ℕ) → v < G.n → ready G c v ≡ test v = tells-same (ready-tells W c A) (rw (left-steps G e t) at h) in
        chosen-count G (steps G t (begin e)) (fair-steps G (begin e) (fair-begin G e) t) k l
        ∙ ap (λ (x : ℕ). min (G.cores k) x) (count_ext (λ v. ready G c v && eqb (G.kind v) k) (λ v. test v && eqb (G.kind v) k) G.n (λ v m. ap (λ (b : Bool). b && eqb (G.kind v) k) (same v m)))

-- THEOREM. While a vertex is unfinished, some vertex runs: in every state with no more marks than cores.
pub some-chosen : {G : Graph} → WellFormed G → Acyclic G → (s : State) → Fair G s → (v : ℕ) → v < G.n → (Finished G s.rest v → ⊥)
    → (u : ℕ) × (u < G.n) × (chosen G s u ≡ true)
some-chosen {G} W A s f v l x =
    let R = ranked W A in
    let d = to_sink W R v l in
    let r = to-ready W s.rest R v d.0 d.1 x in
    let u = r.top in
    let m : u < G.n = head-known W r.path in
    let k : G.kind u < G.kinds = W.kind_known u m in
    let q = count-some (λ v. ready G s.rest v && eqb (G.kind v) (G.kind u)) G.n u m
    (both (ready G s.rest u) (eqb (G.kind u) (G.kind u)) ((ready-tells W s.rest A).complete u m r.has) (eq-eqb (G.kind u) (G.kind u) refl)) in
    let some : 0 < count (λ v. chosen G s v && eqb (G.kind v) (G.kind u)) G.n = omega (arith, chosen-count G s f (G.kind u) k, W.some_core (G.kind u) k) in
    let w = some-counted (λ v. chosen G s v && eqb (G.kind v) (G.kind u)) G.n some in
    (w.0, w.1, left-of (chosen G s w.0) (eqb (G.kind w.0) (G.kind u)) w.2)

-- THEOREM. Every work-conserving schedule ends, whatever the times; so the list schedule does.
pub ends : {G : Graph} → WellFormed G → Acyclic G → {S : Schedule} → WorkConserving G S → (F : ℕ) × Finish G S F
ends {G} W A {S} C = finish_by W A S (sum S.time G.n) (all_by W A C)

pub list-ends : {G : Graph} → WellFormed G → Acyclic G → (e : ℕ → ℕ) → (F : ℕ) × Finish G (list_schedule G e) F
list-ends W A e = ends W A (list_works W A e)

-- THEOREM (demand 3 for our own runs). The list schedule ends by NEW-B-1.
pub list_demand_3 : {G : Graph} → WellFormed G → Acyclic G → (e : ℕ → ℕ) → Times G e → (B : ℕ) → NewB1 G B → EndsBy G (list_schedule G e) B
unfolding list_schedule
list_demand_3 W A e h B b = demand_3 W A h (list_works W A e) B b
