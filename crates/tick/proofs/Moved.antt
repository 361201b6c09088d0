-- A record moved on by d ticks of the vertices that are chosen, for one tick as for a leap.
use mathlib.Core.Path.{◌≡◌, ap, ◌∙◌}
use mathlib.Core.Bool.{Bool, true, false, ◌&&◌}
use Prim.Native.Nat.{ℕ, ◌+◌, ◌-◌, ◌≤◌, ◌<◌}
use native.Mathlib.Omega.{arith}
use lib.Dec.{ltb}
use Rattle.model.specs.Places.{pick, sum}
use Rattle.model.specs.ListSchedule.{State, chosen, leap}
use Rattle.model.proofs.Bools.{clash, not-true}
use Rattle.model.proofs.Sums.{sum_drop}
use Rattle.model.proofs.Listed.{chosen-ready}
use Rattle.model.proofs.Leap.{ready-past}
use Rattle.graph.specs.declared.Graph.{Graph}
use Rattle.graph.specs.Model.{as_model, AcceptedGraph}
use Rattle.vset.specs.Members.{is_in}
use Rattle.tick.specs.declared.Run.{Run}
use Rattle.tick.specs.Run.{left_of, state_of, record_for}
use Rattle.tick.proofs.Records.{state-record}

module _ (g : Graph) (A : AcceptedGraph g) (r : Run) (past : (v : ℕ) → g.n ≤ v → left_of r v ≡ 0) where
  -- a place from N on is not chosen
  pub unchosen : (v : ℕ) → g.n ≤ v → chosen (as_model g) (state_of r) v ≡ false
  unfolding state_of as_model
  unchosen v l =
      not-true (chosen (as_model g) (state_of r) v) (λ t. clash (chosen-ready (as_model g) (state_of r) v t) (ready-past A.well_formed (left_of r) v l (past v l)))

  module _ (d : ℕ) (next : Run) (moved : next ≡ record_for (as_model g) (r.instant + d) (leap (as_model g) d (state_of r))) where
    rest-past : (v : ℕ) → g.n ≤ v → (leap (as_model g) d (state_of r)).rest v ≡ 0
    unfolding leap state_of
    rest-past v l = omega (arith, past v l)

    ran-past : (v : ℕ) → g.n ≤ v → (leap (as_model g) d (state_of r)).ran v ≡ false
    unfolding leap
    ran-past v l = ap (λ (b : Bool). b && ltb 0 ((state_of r).rest v - pick (chosen (as_model g) (state_of r) v) d 0)) (unchosen v l)

    -- the record moved on stands for the state moved on
    pub moved-state : state_of next ≡ leap (as_model g) d (state_of r)
    unfolding as_model
    moved-state = ap state_of moved ∙ state-record (as_model g) (r.instant + d) (leap (as_model g) d (state_of r)) A.few_vertices rest-past ran-past

    pub moved-left : (v : ℕ) → left_of next v ≡ left_of r v - pick (chosen (as_model g) (state_of r) v) d 0
    unfolding state_of leap
    moved-left v = ap (λ (x : State). x.rest v) moved-state

    pub moved-ran : (v : ℕ) → is_in next.ran v ≡ chosen (as_model g) (state_of r) v && ltb 0 (left_of r v - pick (chosen (as_model g) (state_of r) v) d 0)
    unfolding state_of leap
    moved-ran v = ap (λ (x : State). x.ran v) moved-state

    pub less-left : (v : ℕ) → left_of next v ≤ left_of r v
    less-left v = omega (arith, moved-left v)

    -- a vertex that runs has d ticks less to go, so that all together have d fewer at least
    pub spend : (u : ℕ) → u < g.n → chosen (as_model g) (state_of r) u ≡ true → d ≤ left_of r u → sum (left_of next) g.n + d ≤ sum (left_of r) g.n
    spend u l c enough = sum_drop (left_of next) (left_of r) d u g.n l (λ v h. less-left v) (omega (arith, rw c at (moved-left u)))
