-- The numbers of an accepted graph: what they rest on, and that they say who stands behind a vertex with ticks left. Numbers that agree with
-- themselves are the right ones.
use mathlib.Core.Path.{◌≡◌, refl, sym, ◌∙◌}
use mathlib.Core.Logic.{◌⊎◌, inl, inr}
use mathlib.Core.List.{List}
use mathlib.Core.Bool.{Bool, true, ◌&&◌, ◌||◌}
use Prim.Native.Nat.{ℕ, ◌<◌}
use native.Mathlib.Omega.{arith}
use lib.Dec.{eqb, ltb}
use lib.ListN.{get_or, length}
use borrow.Author.Tests.{lt-ltb, ltb-true, eq-eqb, eqb-true}
use Rattle.model.specs.Places.{count, table}
use Rattle.model.specs.Graph.{Edge}
use Rattle.model.specs.Cycle.{Walk}
use Rattle.model.proofs.Bools.{both, left-of, right_of, or_left, or_right, same_test}
use Rattle.model.proofs.Places.{every-at, every_intro, count-some, some-counted}
use Rattle.model.proofs.Cycles.{ranked}
use Rattle.graph.specs.declared.Graph.{Graph}
use Rattle.graph.specs.Model.{as_model, from, to, AcceptedGraph}
use Rattle.graph.proofs.Edges.{edge_at, edge-place}
use Rattle.vset.specs.declared.Vset.{Vset}
use Rattle.vset.specs.Members.{is_in, Members}
use Rattle.starts.specs.Starts.{comes_from, leads_to, first_edge, Rows}
use Rattle.starts.proofs.Together.{accepted-rows}
use Rattle.sets.specs.Sets.{row_of, Holds}
use Rattle.rows.specs.Rows.{predecessor}
use Rattle.waiting.proofs.Rows.{rows-together, all_edges, common-counts}
use Rattle.waiting.specs.Waiting.{entering, edges_by, Layout, Settled, self_counted}
use Rattle.waiting.proofs.Numbers.{Closed, closed_one, settled_closed}
use Rattle.ready.specs.Ready.{is_behind}
use Rattle.ready.proofs.Ancestors.{last-edge, behind_walk, walk_behind, edge-behind}

module _ (g : Graph) (A : AcceptedGraph g) where
  behind-closed : (p : ℕ → Bool) → Closed g.edge g.edges p (is_behind (as_model g) p)
  unfolding from to
  behind-closed p = record { comes = comes; goes = λ i h t. edge-behind p A.well_formed A.acyclic (from g i) (to g i) (edge_at g i h) t }
    where
      comes : (v : ℕ) → is_behind (as_model g) p v ≡ true → (i : ℕ) × (i < g.edges) × (p (comes_from g.edge i) || is_behind (as_model g) p (comes_from g.edge i) ≡ true) × (leads_to g.edge i ≡ v)
      comes v t = let x = behind_walk p v t in go x.0 x.1 (last-edge x.2)
        where
          go : (u : ℕ) → p u ≡ true → (w : ℕ) × Edge (as_model g) w v × ((u ≡ w) ⊎ Walk (as_model g) u w)
              → (i : ℕ) × (i < g.edges) × (p (comes_from g.edge i) || is_behind (as_model g) p (comes_from g.edge i) ≡ true) × (leads_to g.edge i ≡ v)
          go u h (w, e, y) = let i = edge-place g w v e in (i.place, i.within, rw i.is-from (turn y), i.is-to)
            where
              turn : (u ≡ w) ⊎ Walk (as_model g) u w → p w || is_behind (as_model g) p w ≡ true
              turn (inl q) = or_left (p w) (is_behind (as_model g) p w) (rw (← q) h)
              turn (inr y) = or_right (p w) (is_behind (as_model g) p w) (walk_behind p A.well_formed A.acyclic u w (A.well_formed.from w v e) h y)

  rank_rises : (i : ℕ) → i < g.edges → (ranked A.well_formed A.acyclic).rank (comes_from g.edge i) < (ranked A.well_formed A.acyclic).rank (leads_to g.edge i)
  unfolding from to
  rank_rises i h = (ranked A.well_formed A.acyclic).up (from g i) (to g i) (edge_at g i h)

  ends-known : (i : ℕ) → i < g.edges → (comes_from g.edge i < 128) × (leads_to g.edge i < 128)
  unfolding from to
  ends-known i h = (omega (arith, A.from_known i h, A.few_vertices), omega (arith, A.to_known i h, A.few_vertices))

  -- THEOREM. The numbers say who stands behind a busy vertex.
  pub settled-behind : (w : List ℕ) (busy : ℕ → Bool) (b : Vset) → Settled g.edge g.edges w busy b → (v : ℕ) → is_in b v ≡ is_behind (as_model g) busy v
  settled-behind w busy b S =
      closed_one g.edge g.edges busy (ranked A.well_formed A.acyclic).rank rank_rises (is_in b) (is_behind (as_model g) busy) (settled_closed g.edge g.edges w busy b S (λ i h. (ends-known i h).1)) (behind-closed busy)

  -- who stands behind a busy vertex is the end of an edge from such a vertex or from one that stands behind another
  pub behind-counted : (p : ℕ → Bool) (v : ℕ) → ltb 0 (entering g.edge (λ u. p u || is_behind (as_model g) p u) g.edges v) ≡ is_behind (as_model g) p v
  unfolding entering
  behind-counted p v = same_test (ltb 0 (count test g.edges)) (is_behind (as_model g) p v) to from
    where
      on : ℕ → Bool
      on i = p (comes_from g.edge i) || is_behind (as_model g) p (comes_from g.edge i)

      test : ℕ → Bool
      test i = on i && eqb (leads_to g.edge i) v

      to : ltb 0 (count test g.edges) ≡ true → is_behind (as_model g) p v ≡ true
      to t =
          let i = some-counted test g.edges (ltb-true 0 (count test g.edges) t) in
          let e = eqb-true (leads_to g.edge i.0) v (right_of (on i.0) (eqb (leads_to g.edge i.0) v) i.2) in
          rw (← e) ((behind-closed p).goes i.0 i.1 (left-of (on i.0) (eqb (leads_to g.edge i.0) v) i.2))

      from : is_behind (as_model g) p v ≡ true → ltb 0 (count test g.edges) ≡ true
      from t =
          let i = (behind-closed p).comes v t in
          lt-ltb 0 (count test g.edges) (count-some test g.edges i.0 i.1 (both (on i.0) (eqb (leads_to g.edge i.0) v) i.2 (eq-eqb (leads_to g.edge i.0) v i.3)))

  rows : Rows g.edge g.edges g.n (table (first_edge g) 129)
  rows = accepted-rows A refl

  -- THEOREM. Numbers that agree with themselves are settled.
  module _ (p : List (List ℕ)) (H : Holds p (predecessor g.edge g.edges)) (w : List ℕ) (busy : ℕ → Bool) (b : Vset) where
    abbrev unfinished : ℕ → Bool
    unfinished u = busy u || is_in b u

    abbrev right : ℕ → Bool
    right v = eqb (get_or w v 0) (count (λ u. is_in (row_of p v) u && unfinished u) 128)

    pub agreed : length w ≡ 128 → Members b (λ v. ltb 0 (get_or w v 0)) → self_counted p w busy (is_in b) ≡ true → Settled g.edge g.edges w busy b
    unfolding self_counted
    agreed long stand t = record {
      long = long;
      counts = λ v h. eqb-true (get_or w v 0) (count (λ u. is_in (row_of p v) u && unfinished u) 128) (every-at right 128 t v h) ∙ common-counts rows p H unfinished v h;
      stand = stand;
    }

    pub agrees : Settled g.edge g.edges w busy b → self_counted p w busy (is_in b) ≡ true
    unfolding self_counted
    agrees S = every_intro right 128 (λ v h. eq-eqb (get_or w v 0) (count (λ u. is_in (row_of p v) u && unfinished u) 128) (S.counts v h ∙ sym (common-counts rows p H unfinished v h)))

  pub edges-counted : edges_by (table (first_edge g) 129) ≡ g.edges
  edges-counted = all_edges rows

  pub layout : Layout g.edge (table (first_edge g) 129)
  layout = let m = edges-counted in record {
    few = rw m A.few_edges;
    begin = rw m refl;
    known = λ i h. ends-known i (rw m at h);
    together = λ i j h k. rows-together rows i j h (rw m at k);
    rank = (ranked A.well_formed A.acyclic).rank;
    rises = λ i h. rank_rises i (rw m at h);
  }

  -- what a run begins by
  module _ {n : ℕ} {edge starts : List ℕ} (n_is : n ≡ g.n) (edges_are : edge ≡ g.edge) (starts_are : starts ≡ table (first_edge g) 129) {p : List (List ℕ)} where
    pub begins : Holds p (predecessor g.edge g.edges) → Layout edge starts × (Rows edge (edges_by starts) n starts × Holds p (predecessor edge (edges_by starts)))
    begins H = rw (edges_are, starts_are, n_is, edges-counted) (layout, (rows, H))
