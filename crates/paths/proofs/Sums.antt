-- Why one pass along the order finds the largest sums. A table in which each sum is the largest by an edge, over what its ends have, holds the
-- largest sums ahead: it bounds every path, by induction along the path, and going on to the end that gives the sum makes a path that
-- attains it. From the last place of the order to the first, each sum is made so: the ends of a vertex's edges stand at later places, where
-- the sums are done, and no later store changes them.
use mathlib.Core.Path.{◌≡◌, sym, ap, ◌∙◌}
use mathlib.Core.List.{List, ◌∷◌}
use mathlib.Core.Logic.{◌⊎◌, inl, inr, ◌↔◌}
use Prim.Native.Nat.{ℕ, zero, suc, ◌+◌, ◌-◌, ◌*◌, ◌≤◌, ◌<◌, zero-le}
use native.Mathlib.Omega.{arith}
use native.Mathlib.Decide.{ℕ_discrete}
use lib.ListN.{get_or, length, set, replicate, length-replicate, length-set}
use lib.Seq.{get_or-set_same, get_or-set_other}
use borrow.Author.Tests.{eq-eqb, eqb-true}
use Rattle.model.specs.Places.{along}
use Rattle.model.specs.Graph.{Edge, Source, WellFormed}
use Rattle.model.specs.Graph as model
use Rattle.model.specs.Cycle.{Acyclic}
use Rattle.model.specs.Path.{ToSink, link}
use Rattle.model.proofs.Bools.{le-or-lt}
use Rattle.model.proofs.Tables.{table_at, zeros}
use Rattle.model.proofs.Cycles.{ranked, rank_below}
use Rattle.model.proofs.Paths.{to_sink, unraised, source-tells}
use Rattle.graph.specs.Model.{AcceptedGraph, as_model, from, to}
use Rattle.graph.specs.declared.Graph.{Graph}
use Rattle.graph.proofs.Edges.{edge_at, edge-place}
use Rattle.starts.specs.Starts.{comes_from, first_edge, Ordered}
use Rattle.starts.proofs.Together.{start-within, start-below, start-above, start-later}
use Rattle.paths.specs.Ahead.{weigh, sum_at, Light, Ahead, Summed, RowsOf, Weighed, Sources}
use Rattle.paths.specs.Along.{goes, Given, Follows, Visitable, Comparable, Foremost}
use Rattle.paths.proofs.Along.{follows_kept}

-- ---- sums that follow from one another

module _ {G : model.Graph} (W : WellFormed G) (A : Acyclic G) (f s : ℕ → ℕ) (most : (u v : ℕ) → Edge G u v → f v + s v ≤ s u)
    (attained : (u : ℕ) → u < G.n → (s u ≡ 0) ⊎ ((v : ℕ) × Edge G u v × (s u ≡ f v + s v))) where
  bounds : (v : ℕ) (p : List ℕ) → ToSink G (v ∷ p) → along f p ≤ s v
  unfolding along
  bounds v p t = omega (arith, unraised W f (sum_at f s) (λ u l. omega arith) (λ u x e. omega (arith, most u x e)) v p t)

  attaining : (k v : ℕ) → v < G.n → G.n ≤ (ranked W A).rank v + k → (p : List ℕ) × ToSink G (v ∷ p) × (along f p ≡ s v)
  unfolding along
  attaining zero v l h = absurd (omega (arith, rank_below W A v l))
  attaining (suc k) v l h = go (attained v l) (λ u e. attaining k u (W.to v u e) (omega (arith, (ranked W A).up v u e)))
    where
      go : (s v ≡ 0) ⊎ ((u : ℕ) × Edge G v u × (s v ≡ f u + s u)) → ((u : ℕ) → Edge G v u → (p : List ℕ) × ToSink G (u ∷ p) × (along f p ≡ s u))
          → (p : List ℕ) × ToSink G (v ∷ p) × (along f p ≡ s v)
      go (inl z) ih = let t = to_sink W (ranked W A) v l in (t.0, t.1, omega (arith, bounds v t.0 t.1))
      go (inr r) ih = let t = ih r.0 r.1 in (r.0 ∷ t.0, link r.1 t.1, omega (arith, t.2, r.2))

  follows-ahead : (v : ℕ) → v < G.n → Ahead G f v (s v)
  follows-ahead v l =
      let t = attaining G.n v l (omega arith) in record { path = t.0; to_sink = t.1; attained = t.2; unexceeded = bounds v }

-- ---- the rows of an accepted graph

module _ {g : Graph} {e st : List ℕ} (R : RowsOf g e st) where
  starts-at : (u : ℕ) → u < 129 → get_or st u 0 ≡ first_edge g u
  starts-at u l = ap (λ (x : List ℕ). get_or x u 0) R.starts ∙ table_at (first_edge g) 129 u l

  pub goes_to : (i : ℕ) → goes e i ≡ to g i
  unfolding to
  goes_to i = ap (λ (l : List ℕ). goes l i) R.edge

  comes-from : (i : ℕ) → comes_from e i ≡ from g i
  unfolding from
  comes-from i = ap (λ (l : List ℕ). comes_from l i) R.edge

  -- a place from the start of u up to that of u + 1 has an edge from u, and each edge from u has one of them
  pub row-edge : (u i : ℕ) → u < g.n → get_or st u 0 ≤ i → i < get_or st (u + 1) 0 → (i < g.edges) × (from g i ≡ u)
  row-edge u i l a b =
      let few = R.accepted.few_vertices in
      let m : i < g.edges = omega (arith, starts-at (u + 1) (omega arith), start-within g (u + 1)) in
      (m, omega (arith, start-above R.accepted u i (omega (arith, starts-at u (omega arith))) m, start-below g (u + 1) i (omega (arith, starts-at (u + 1) (omega arith)))))

  pub row-joins : (u i : ℕ) → u < g.n → get_or st u 0 ≤ i → i < get_or st (u + 1) 0 → Edge (as_model g) u (goes e i)
  row-joins u i l a b = let r = row-edge u i l a b in rw (goes_to i) (rw r.1 at (edge_at g i r.0))

  pub row_of : (u v : ℕ) → Edge (as_model g) u v → (i : ℕ) × (get_or st u 0 ≤ i) × (i < get_or st (u + 1) 0) × (goes e i ≡ v)
  unfolding as_model
  row_of u v d =
      let r = edge-place g u v d in
      (r.place, low r.place r.is-from (le-or-lt (first_edge g u) r.place), high r.place r.within r.is-from (le-or-lt (first_edge g (u + 1)) r.place), goes_to r.place ∙ r.is-to)
    where
      few : u < 128
      few = omega (arith, R.accepted.well_formed.from u v d, R.accepted.few_vertices)

      low : (i : ℕ) → from g i ≡ u → (first_edge g u ≤ i) ⊎ (i < first_edge g u) → get_or st u 0 ≤ i
      low i q (inl a) = omega (arith, starts-at u (omega (arith, few)))
      low i q (inr a) = absurd (omega (arith, start-below g u i a))

      high : (i : ℕ) → i < g.edges → from g i ≡ u → (first_edge g (u + 1) ≤ i) ⊎ (i < first_edge g (u + 1)) → i < get_or st (u + 1) 0
      high i m q (inl a) = absurd (omega (arith, start-above R.accepted (u + 1) i a m))
      high i m q (inr a) = omega (arith, starts-at (u + 1) (omega (arith, few)))

  -- what looking at the edges of u needs, where the sums are at most c
  pub visitable : {w : List ℕ} → Light (as_model g) w → (s : List ℕ) (c : ℕ) → ((v : ℕ) → v < g.n → get_or s v 0 ≤ c) → c ≤ 18000000000000000000 → (u : ℕ) → u < g.n → Visitable e st w s u
  unfolding as_model
  visitable light s c small room u l = record {
    vertex = omega (arith, few);
    row = omega (arith, starts-at u (omega (arith, few)), starts-at (u + 1) (omega (arith, few)), start-later g.edge g.edges u);
    within = omega (arith, starts-at (u + 1) (omega (arith, few)), start-within g (u + 1), R.accepted.few_edges);
    ends = λ i a b. omega (arith, ends i a b, few);
    fits = λ i a b. let m = ends i a b in omega (arith, light (goes e i) m, small (goes e i) m);
  }
    where
      few : g.n ≤ 128
      few = R.accepted.few_vertices

      ends : (i : ℕ) → get_or st u 0 ≤ i → i < get_or st (u + 1) 0 → goes e i < g.n
      ends i a b = R.accepted.well_formed.to u (goes e i) (row-joins u i l a b)

-- ---- along the order

-- the sums of the vertices from place j on are done
pub record Done (e st o : List ℕ) (n : ℕ) (w s : List ℕ) (j : ℕ) : Type 0 where
  pub size : length s ≡ 128
  pub follows : (k : ℕ) → j ≤ k → k < n → Follows e w s (get_or st (get_or o k 0) 0) (get_or st (get_or o k 0 + 1) 0) (get_or s (get_or o k 0) 0)
  pub small : (v : ℕ) → get_or s v 0 ≤ 720720000000 * (n - j)
  pub past : (v : ℕ) → n ≤ v → get_or s v 0 ≡ 0

pub done_none : (e st o : List ℕ) (n : ℕ) (w : List ℕ) → Done e st o n w (replicate 128 0) n
done_none e st o n w = record {
  size = length-replicate {A = ℕ} 128 0;
  follows = λ k l m. absurd (omega arith);
  small = λ v. omega (arith, zeros 128 v);
  past = λ v l. zeros 128 v;
}

module _ {g : Graph} {e st o : List ℕ} {n : ℕ} {w : List ℕ} (T : Weighed g e st o n w) where
  O : Ordered e g.edges g.n o
  O = T.order

  known : (k : ℕ) → k < n → get_or o k 0 < g.n
  known k l = O.known k (rw T.vertices at l)

  pub done-vertex : (k : ℕ) → k < n → get_or o k 0 < 128
  done-vertex k l = omega (arith, known k l, T.rows.accepted.few_vertices)

  place_at : (k : ℕ) → k < n → O.place (get_or o k 0) ≡ k
  place_at k l = O.once k (rw T.vertices at l)

  -- the edges of the vertex at place k go to later places
  ahead : (k i : ℕ) → k < n → get_or st (get_or o k 0) 0 ≤ i → i < get_or st (get_or o k 0 + 1) 0 → k < O.place (goes e i)
  ahead k i l a b =
      let r = row-edge T.rows (get_or o k 0) i (known k l) a b in
      omega (arith, O.later i r.0, ap O.place (comes-from T.rows i ∙ r.1), place_at k l)

  module _ (s : List ℕ) (j k : ℕ) (next : j ≡ k + 1) (l : j ≤ n) (D : Done e st o n w s j) where
    pub done_visitable : Visitable e st w s (get_or o k 0)
    done_visitable =
        visitable T.rows T.light s (720720000000 * 128) (λ v b. omega (arith, D.small v, l, T.vertices, T.rows.accepted.few_vertices)) (omega arith) (get_or o k 0) (known k (omega arith))

    -- one place more is done: its sum is stored, and no edge from here on goes to it
    pub done_more : (x : ℕ) → Follows e w s (get_or st (get_or o k 0) 0) (get_or st (get_or o k 0 + 1) 0) x → Done e st o n w (set s (get_or o k 0) x) k
    unfolding as_model
    done_more x F = record {
      size = length-set s u x ∙ D.size;
      follows = λ i a b. follows i a b (ℕ_discrete i k);
      small = λ v. small v (ℕ_discrete v u);
      past = λ v a. get_or-set_other s u v x 0 (λ q. omega (arith, q, known k within, T.vertices)) ∙ D.past v a;
    }
      where
        u : ℕ
        u = get_or o k 0

        within : k < n
        within = omega arith

        here : get_or (set s u x) u 0 ≡ x
        here = get_or-set_same s u x 0 (omega (arith, D.size, done-vertex k within))

        -- the place of each vertex is its own
        own : (i : ℕ) → i < n → get_or o i 0 ≡ u → i ≡ k
        own i b q = omega (arith, ap O.place q, place_at i b, place_at k within)

        apart : (i : ℕ) → k ≤ i → i < n → (h : ℕ) → get_or st (get_or o i 0) 0 ≤ h → h < get_or st (get_or o i 0 + 1) 0 → goes e h ≡ u → ⊥
        apart i a b h c d q = omega (arith, ap O.place q, place_at k within, ahead i h b c d)

        follows : (i : ℕ) → k ≤ i → i < n → Dec (i ≡ k) → Follows e w (set s u x) (get_or st (get_or o i 0) 0) (get_or st (get_or o i 0 + 1) 0) (get_or (set s u x) (get_or o i 0) 0)
        follows i a b (yes q) = rw (q, here) (follows_kept e w s (get_or st u 0) (get_or st (u + 1) 0) u x x (apart k (omega arith) within) F)
        follows i a b (no q) =
            let v = get_or o i 0 in
            rw (get_or-set_other s u v x 0 (λ z. q (own i b z)))
            (follows_kept e w s (get_or st v 0) (get_or st (v + 1) 0) u x (get_or s v 0) (apart i a b) (D.follows i (omega arith) b))

        most : Given e w s (get_or st u 0) (get_or st (u + 1) 0) x → x ≤ 720720000000 * (n - k)
        most (inl z) = omega arith
        most (inr r) =
            let v = goes e r.0 in
            omega (arith, r.3, T.light v (T.rows.accepted.well_formed.to u v (row-joins T.rows u r.0 (known k within) r.1 r.2)), D.small v)

        small : (v : ℕ) → Dec (v ≡ u) → get_or (set s u x) v 0 ≤ 720720000000 * (n - k)
        small v (yes q) = rw (q, here) (most F.attained)
        small v (no q) = omega (arith, get_or-set_other s u v x 0 q, D.small v)

  -- ---- at the end

  module _ (s m : List ℕ) (D : Done e st o n w s 0) (S : Sources g m) where
    -- the unmarked vertices are the sources
    unmarked-source : (v : ℕ) → v < g.n → (get_or m v 0 ≡ 0) ↔ Source (as_model g) v
    unfolding as_model
    unmarked-source v l = (
      λ z. (source-tells T.rows.accepted.well_formed).sound v l (sym (S v l) ∙ eq-eqb (get_or m v 0) 0 z),
      λ d. eqb-true (get_or m v 0) 0 (S v l ∙ (source-tells T.rows.accepted.well_formed).complete v l d),
    )

    -- no edge leads to the first vertex of the order
    first-source : Source (as_model g) (get_or o 0 0)
    first-source u d =
        let r = edge-place g u (get_or o 0 0) d in
        omega (arith, O.later r.place r.within, ap O.place (goes_to T.rows r.place ∙ r.is-to), O.once 0 T.rows.accepted.some_vertex)

    pub done-comparable : Comparable w s m n (get_or o 0 0)
    unfolding as_model
    done-comparable = record {
      few = omega (arith, T.vertices, T.rows.accepted.few_vertices);
      vertex = omega (arith, T.vertices, O.known 0 T.rows.accepted.some_vertex);
      unmarked = (unmarked-source (get_or o 0 0) (O.known 0 T.rows.accepted.some_vertex)).1 first-source;
      fits = λ v l. omega (arith, T.light v (rw T.vertices at l), D.small v, T.vertices, T.rows.accepted.few_vertices);
    }

    -- the table holds the largest sums ahead, and the longest path begins at the foremost of the sources
    pub done-summed : (h : ℕ) → Foremost w s m n h → Summed (as_model g) (weigh w) (record { ahead = s; head = h })
    unfolding as_model
    done-summed h F = record {
      longest = record { size = D.size; ahead = follows-ahead W G.acyclic (weigh w) (λ v. get_or s v 0) most attained; past = λ v l. D.past v (rw T.vertices l) };
      head = record {
        known = rw T.vertices at F.vertex;
        is_source = (unmarked-source h (rw T.vertices at F.vertex)).0 F.unmarked;
        most = λ u l d. F.most u (rw T.vertices l) ((unmarked-source u l).1 d);
        first = λ u l d. F.first u l ((unmarked-source u (omega (arith, l, F.vertex, T.vertices))).1 d);
      };
    }
      where
        R : RowsOf g e st
        R = T.rows

        G : AcceptedGraph g
        G = R.accepted

        W : WellFormed (as_model g)
        W = G.well_formed

        follows : (u : ℕ) → u < g.n → Follows e w s (get_or st u 0) (get_or st (u + 1) 0) (get_or s u 0)
        follows u l = rw (O.stands u l) at (D.follows (O.place u) zero-le (omega (arith, O.within u l, T.vertices)))

        most : (u v : ℕ) → Edge (as_model g) u v → weigh w v + get_or s v 0 ≤ get_or s u 0
        most u v d = let r = row_of R u v d in rw r.3 at ((follows u (W.from u v d)).most r.0 r.1 r.2)

        attained : (u : ℕ) → u < g.n → (get_or s u 0 ≡ 0) ⊎ ((v : ℕ) × Edge (as_model g) u v × (get_or s u 0 ≡ weigh w v + get_or s v 0))
        attained u l = go (follows u l).attained
          where
            go : Given e w s (get_or st u 0) (get_or st (u + 1) 0) (get_or s u 0)
                → (get_or s u 0 ≡ 0) ⊎ ((v : ℕ) × Edge (as_model g) u v × (get_or s u 0 ≡ weigh w v + get_or s v 0))
            go (inl z) = inl z
            go (inr r) = inr (goes e r.0, row-joins R u r.0 l r.1 r.2, r.3)
