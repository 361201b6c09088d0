-- Each place of the edge list is an edge of the model's graph, and each edge of it stands at a place.
use mathlib.Core.Path.{◌≡◌, refl}
use Prim.Native.Nat.{ℕ, zero, suc, ◌+◌, ◌-◌, ◌≤◌, ◌<◌}
use native.Mathlib.Omega.{arith}
use lib.Dec.{eqb}
use lib.ListN.{get_or}
use borrow.Author.Tests.{eq-eqb, eqb-true}
use Rattle.model.specs.Graph.{Edge}
use Rattle.model.proofs.Bools.{both, left-of, right_of}
use Rattle.model.proofs.Places.{any_intro, any_elim}
use Rattle.graph.specs.Model.{AcceptedGraph, as_model, joins, from, to}
use Rattle.graph.specs.declared.Graph.{Graph}

pub edge_at : (g : Graph) (i : ℕ) → i < g.edges → Edge (as_model g) (from g i) (to g i)
unfolding as_model joins
edge_at g i l =
    any_intro (joins g (from g i) (to g i)) g.edges i l (both (eqb (from g i) (from g i)) (eqb (to g i) (to g i)) (eq-eqb (from g i) (from g i) refl) (eq-eqb (to g i) (to g i) refl))

-- edges ascend
pub edges_ascend : {g : Graph} → AcceptedGraph g → (i d : ℕ) → i + d < g.edges → get_or g.edge i 0 ≤ get_or g.edge (i + d) 0
edges_ascend G i zero l = let e : i + zero ≡ i = omega arith in rw e (omega arith)
edges_ascend {g} G i (suc d) l =
    let e : i + suc d ≡ suc (i + d) = omega arith in
    rw e (omega (arith, edges_ascend G i d (omega arith), G.ascending (i + d) (omega arith)))

-- so of two edges from one vertex the earlier goes to the lower number
pub to-ascends : {g : Graph} → AcceptedGraph g → (i j : ℕ) → i ≤ j → j < g.edges → from g i ≡ from g j → to g i ≤ to g j
unfolding from to
to-ascends {g} G i j l k e =
    let h : i + (j - i) ≡ j = omega arith in
    let a : get_or g.edge i 0 ≤ get_or g.edge j 0 = rw h at (edges_ascend G i (j - i) (omega arith)) in
    omega arith

-- the place of an edge
pub record Stands (g : Graph) (u v : ℕ) : Type 0 where
  pub place : ℕ
  pub within : place < g.edges
  pub is-from : from g place ≡ u
  pub is-to : to g place ≡ v

pub edge-place : (g : Graph) (u v : ℕ) → Edge (as_model g) u v → Stands g u v
unfolding as_model joins
edge-place g u v e =
    let r = any_elim (joins g u v) g.edges e in
    record {
      place = r.0;
      within = r.1;
      is-from = eqb-true (from g r.0) u (left-of (eqb (from g r.0) u) (eqb (to g r.0) v) r.2);
      is-to = eqb-true (to g r.0) v (right_of (eqb (from g r.0) u) (eqb (to g r.0) v) r.2);
    }
