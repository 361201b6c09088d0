-- The argument behind every bound.
--
-- Give each path to a sink a value at each instant: what the path and the rest of the graph still owe. Let the value never fall
-- when a vertex is put in front of the path, and let it fall by a whole tick, L, in each tick that begins with the path's first
-- vertex ready. Then, while the first vertex w of a path is unfinished at the instant t, the time passed and the path's value
-- are together within the value B of a complete path at the start:
--
--     t × L + value t (w ∷ p) ≤ B.
--
-- For t = 0 the path extends backwards to a source. From t to t + 1: w is unfinished at t too, so the path extends backwards to
-- one whose first vertex is ready at t (perhaps w itself); by induction the claim holds for that one at t, the tick takes L off
-- its value, and dropping the vertices in front makes the value no larger. Nothing here asks which vertex ran.
use mathlib.Core.List.{List, ◌∷◌}
use Prim.Native.Nat.{ℕ, zero, suc, ◌+◌, ◌*◌, ◌≤◌, ◌<◌}
use native.Mathlib.Omega.{arith}
use Rattle.model.specs.Graph.{Graph, WellFormed}
use Rattle.model.specs.Cycle.{Ranked}
use Rattle.model.specs.Path.{ToSink, Complete, complete}
use Rattle.model.specs.Schedule.{Schedule, left, Finished, Ready}
use Rattle.model.proofs.Paths.{Extends, same, more, to-source, to_sink}
use Rattle.model.proofs.Finished.{fin_step, to-ready}

module _ {G : Graph} (W : WellFormed G) (R : Ranked G) (S : Schedule) (L B : ℕ) (value : ℕ → List ℕ → ℕ)
    (grow : (t u : ℕ) (p : List ℕ) → value t p ≤ value t (u ∷ p))
    (tick : (t u : ℕ) (p : List ℕ) → Ready G (left S t) u → ToSink G (u ∷ p) → value (suc t) (u ∷ p) + L ≤ value t (u ∷ p))
    (start : (p : List ℕ) → Complete G p → value 0 p ≤ B) where
  grows : (t : ℕ) {p q : List ℕ} → Extends p q → value t p ≤ value t q
  grows t same = omega arith
  grows t (more {u = u} {q = q} x) = omega (arith, grows t x, grow t u q)

  claim : (t w : ℕ) (p : List ℕ) → ToSink G (w ∷ p) → (Finished G (left S t) w → ⊥) → t * L + value t (w ∷ p) ≤ B
  claim zero w p c x =
      let r = to-source W R w p c in
      omega (arith, grows 0 r.over, start (r.top ∷ r.rest) (complete r.has r.path))
  claim (suc t) w p c x =
      let r = to-ready W (left S t) R w p c (λ f. x (fin_step S t f)) in
      omega (arith, grows (suc t) r.over, tick t r.top r.rest r.has r.path, claim t r.top r.rest r.path r.has.unfinished)

  -- a vertex unfinished at the instant t leaves room for one tick more
  pub late : (t w : ℕ) → w < G.n → (Finished G (left S t) w → ⊥) → suc t * L ≤ B
  late t w l x =
      let d = to_sink W R w l in
      let r = to-ready W (left S t) R w d.0 d.1 x in
      omega (arith, tick t r.top r.rest r.has r.path, claim t r.top r.rest r.path r.has.unfinished)
