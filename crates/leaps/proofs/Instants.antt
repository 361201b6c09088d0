-- The record of the list schedule at an instant: it stands for the state there, and up to the finish it is over exactly at the finish.
use mathlib.Core.Path.{◌≡◌, refl, sym, ap, ◌∙◌}
use mathlib.Core.Logic.{◌⊎◌, inl, inr, ⊎_elim}
use mathlib.Core.Bool.{Bool, true, false, not, ◌&&◌}
use Prim.Native.Nat.{ℕ, zero, suc, ◌-◌, ◌≤◌, ◌<◌, min}
use native.Mathlib.Omega.{arith}
use lib.Dec.{eqb, ltb, leb}
use lib.ListN.{get_or}
use borrow.Author.Tests.{le-leb, lt-leb, eq-eqb, ne_eqb, ltb-true, ltb-false}
use Rattle.model.specs.Places.{pick, any, every, sum, padded}
use Rattle.model.specs.Graph as model
use Rattle.model.specs.ListSchedule.{State, finished, begin, chosen, leap, steps}
use Rattle.model.proofs.Bools.{cases, clash, le-or-lt, not-true}
use Rattle.model.proofs.Places.{any_elim, any_false}
use Rattle.model.proofs.Sums.{sum_term, sum-zero}
use Rattle.model.proofs.Listed.{chosen-ready}
use Rattle.model.proofs.Leap.{ready-past}
use Rattle.graph.specs.declared.Graph.{Graph}
use Rattle.graph.specs.Model.{as_model, AcceptedGraph}
use Rattle.tick.specs.Run.{left_of, state_of, awaited, record_for, over}
use Rattle.tick.proofs.Records.{state-record}
use Rattle.ready.proofs.Standing.{all_finished}
use Rattle.leaps.specs.Finishes.{done_at, finish_of}
use Rattle.leaps.specs.Leaps.{Fresh, record_at_of, until_of}
use Rattle.leaps.proofs.Finishes.{all_done}

-- nobody has ticks left where there are none in all
none_left : (c : ℕ → ℕ) (n : ℕ) → not (any (λ v. ltb 0 (c v)) n) ≡ eqb (sum c n) 0
none_left c n = go (cases (any p n))
  where
    p : ℕ → Bool
    p v = ltb 0 (c v)

    go : (any p n ≡ true) ⊎ (any p n ≡ false) → not (any p n) ≡ eqb (sum c n) 0
    go (inl t) =
        let i = any_elim p n t in
        rw t (sym (ne_eqb (sum c n) 0 (λ z. omega (arith, sum_term c i.0 n i.1, ltb-true 0 (c i.0) i.2))))
    go (inr f) = rw f (sym (eq-eqb (sum c n) 0 (sum-zero c n (λ v l. omega (arith, ltb-false 0 (c v) (any_false p n v l f))))))

module _ (g : Graph) (A : AcceptedGraph g) (e : ℕ → ℕ) (e-past : (v : ℕ) → g.n ≤ v → e v ≡ 0) where
  abbrev G : model.Graph
  G = as_model g

  rest-past : (t v : ℕ) → g.n ≤ v → (steps G t (begin e)).rest v ≡ 0
  unfolding steps leap
  rest-past zero v h = e-past v h
  rest-past (suc t) v h = omega (arith, rest-past t v h)

  ran-past : (t v : ℕ) → g.n ≤ v → (steps G t (begin e)).ran v ≡ false
  unfolding steps leap as_model
  ran-past zero v h = refl
  ran-past (suc t) v h =
      ap (λ (b : Bool). b && ltb 0 ((steps G t (begin e)).rest v - pick (chosen G (steps G t (begin e)) v) 1 0))
      (not-true (chosen G (steps G t (begin e)) v) (λ x. clash (chosen-ready G (steps G t (begin e)) v x) (ready-past A.well_formed (steps G t (begin e)).rest v h (rest-past t v h))))

  pub state-at : (t : ℕ) → state_of (record_at_of g e t) ≡ steps G t (begin e)
  unfolding as_model
  state-at t = state-record G t (steps G t (begin e)) A.few_vertices (rest-past t) (ran-past t)

  pub left_at : (t : ℕ) → left_of (record_at_of g e t) ≡ (steps G t (begin e)).rest
  unfolding state_of
  left_at t = ap (λ (x : State). x.rest) (state-at t)

  -- the record at the start, from which a run can be played
  pub left-start : left_of (record_for G 0 (begin e)) ≡ e
  unfolding steps
  left-start = left_at 0

  pub fresh_start : ((v : ℕ) → v < g.n → e v ≤ get_or g.wcet v 0) → Fresh g (record_for G 0 (begin e))
  unfolding steps state_of record_for as_model
  fresh_start short = record {
    agrees = refl;
    at_start = refl;
    short = λ v h. omega (arith, ap (λ (c : ℕ → ℕ). c v) left-start, short v h);
    past = λ v h. ap (λ (c : ℕ → ℕ). c v) left-start ∙ e-past v h;
    unmarked = λ v. ap (λ (x : State). x.ran v) (state-at 0);
    numbers = ap (λ (c : ℕ → ℕ). padded 128 (awaited G c) g.n) (sym left-start);
  }

  -- THEOREM. Up to the finish, the record at the instant t is over exactly where t is the finish.
  pub over-at : (t : ℕ) → t ≤ finish_of G e → over g (record_at_of g e t) ≡ leb (finish_of G e) t
  unfolding over done_at as_model
  over-at t l = ap (λ (c : ℕ → ℕ). every (finished G c) g.n) (left_at t) ∙ all_done A.well_formed A.acyclic e t l

  -- THEOREM. A run up to tick d is over exactly where the finish is at most d.
  pub over-until : (d : ℕ) → over g (until_of g e d) ≡ leb (finish_of G e) d
  unfolding until_of
  over-until d =
      over-at (min d (finish_of G e)) (omega arith)
      ∙ ⊎_elim
      (λ (h : finish_of G e ≤ d). le-leb (finish_of G e) (min d (finish_of G e)) (omega arith) ∙ sym (le-leb (finish_of G e) d h))
      (λ (h : d < finish_of G e). lt-leb (finish_of G e) (min d (finish_of G e)) (omega arith) ∙ sym (lt-leb (finish_of G e) d h))
      (le-or-lt (finish_of G e) d)

  -- THEOREM. No ticks are left in its record exactly where the finish is at most d.
  pub nobody_left : (d : ℕ) → eqb (sum (left_of (until_of g e d)) g.n) 0 ≡ leb (finish_of G e) d
  unfolding until_of over as_model
  nobody_left d =
      let t = min d (finish_of G e) in
      let c = left_of (record_at_of g e t) in
      sym (all_finished A.well_formed A.acyclic c g.n (omega arith) (λ v h. ap (λ (f : ℕ → ℕ). f v) (left_at t) ∙ rest-past t v h) ∙ none_left c g.n)
      ∙ over-until d
