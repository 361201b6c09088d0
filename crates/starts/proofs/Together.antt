-- The edges of u are those from its start up to that of u + 1.
use mathlib.Core.Path.{◌≡◌, sym}
use mathlib.Core.Bool.{true, false}
use mathlib.Core.Logic.{⊎_elim}
use mathlib.Core.List.{List}
use Prim.Native.Nat.{ℕ, zero, suc, ◌+◌, ◌-◌, ◌/◌, ◌≤◌, ◌<◌}
use native.Mathlib.Omega.{arith}
use lib.ListN.{get_or}
use borrow.Author.Tests.{leb-true, leb-false}
use Rattle.model.specs.Places.{first, table}
use Rattle.model.proofs.Bools.{clash, le-or-lt}
use Rattle.model.proofs.Places.{first-at, first-le, first_below, first-here}
use Rattle.graph.specs.declared.Graph.{Graph}
use Rattle.graph.specs.Model.{AcceptedGraph, from, to}
use Rattle.graph.proofs.Edges.{edges_ascend}
use Rattle.starts.specs.Starts.{not_below, start_in, first_edge, Rows}

-- a search that has passed nothing stops there
pub start-stops : (l : List ℕ) (m u i : ℕ) → i < m → i ≤ start_in l m u → not_below l u i ≡ true → i ≡ start_in l m u
unfolding start_in
start-stops l m u i h k t = sym (first-at (not_below l u) m i h (λ j x. first_below (not_below l u) m j (omega (arith, x, k))) t)

-- or goes on
pub start_passed : (l : List ℕ) (m u i : ℕ) → i < m → i ≤ start_in l m u → not_below l u i ≡ false → i + 1 ≤ start_in l m u
unfolding start_in
start_passed l m u i h k f =
    ⊎_elim
    (λ (e : first (not_below l u) m ≤ i).
    let q : first (not_below l u) m ≡ i = omega (arith, e, k) in
    absurd (clash (rw q at (first-here (not_below l u) m (omega (arith, q, h)))) f))
    (λ (e : i < first (not_below l u) m). omega (arith, e))
    (le-or-lt (first (not_below l u) m) i)

pub start-in : (l : List ℕ) (m u : ℕ) → start_in l m u ≤ m
unfolding start_in
start-in l m u = first-le (not_below l u) m

pub start-within : (g : Graph) (u : ℕ) → first_edge g u ≤ g.edges
start-within g u = start-in g.edge g.edges u

pub start-below : (g : Graph) (u i : ℕ) → i < first_edge g u → from g i < u
unfolding start_in from
start-below g u i l = leb-false u (from g i) (first_below (not_below g.edge u) g.edges i l)

-- an edge comes from no lower number than the ones before it
pub start-above : {g : Graph} → AcceptedGraph g → (u i : ℕ) → first_edge g u ≤ i → i < g.edges → u ≤ from g i
unfolding start_in from
start-above {g} A u i l h =
    let s = first_edge g u in
    let t : u ≤ from g s = leb-true u (from g s) (first-here (not_below g.edge u) g.edges (omega (arith, l, h))) in
    let e : s + (i - s) ≡ i = omega (arith, l) in
    let a : get_or g.edge s 0 ≤ get_or g.edge i 0 = rw e at (edges_ascend A s (i - s) (rw e h)) in
    omega (arith, t, a)

-- a higher number starts no earlier
pub start-later : (l : List ℕ) (m u : ℕ) → start_in l m u ≤ start_in l m (u + 1)
unfolding start_in
start-later l m u =
    ⊎_elim (λ h. h)
    (λ (h : first (not_below l (u + 1)) m < first (not_below l u) m).
    let k = first (not_below l (u + 1)) m in
    let a = leb-true (u + 1) (get_or l k 0 / 256) (first-here (not_below l (u + 1)) m (omega (arith, h, first-le (not_below l u) m))) in
    let b = leb-false u (get_or l k 0 / 256) (first_below (not_below l u) m k h) in
    absurd (omega (arith, a, b)))
    (le-or-lt (first (not_below l u) m) (first (not_below l (u + 1)) m))

pub start-rises : (l : List ℕ) (m u d : ℕ) → start_in l m u ≤ start_in l m (u + d)
start-rises l m u zero = let e : u + zero ≡ u = omega arith in rw e (omega arith)
start-rises l m u (suc d) =
    let e : u + suc d ≡ u + d + 1 = omega arith in
    rw e (omega (arith, start-rises l m u d, start-later l m (u + d)))

-- the edges of an accepted graph are laid out
pub accepted-rows : {g : Graph} → AcceptedGraph g → {st : List ℕ} → st ≡ table (first_edge g) 129 → Rows g.edge g.edges g.n st
unfolding from to
accepted-rows A e = record {
  few_vertices = A.few_vertices;
  few_edges = A.few_edges;
  from_known = A.from_known;
  to_known = A.to_known;
  ascending = A.ascending;
  begin = e;
}
