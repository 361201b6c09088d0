-- The order is a rank: places rise along the edges. The lists have the graph's edges, and no sum is above what 128 vertices can weigh.
use mathlib.Core.Path.{◌≡◌, ap, ◌∙◌}
use mathlib.Core.Bool.{true}
use mathlib.Core.List.{List, [], ◌∷◌}
use Prim.Native.Nat.{ℕ, ◌+◌, ◌-◌, ◌*◌, ◌≤◌, ◌<◌}
use native.Mathlib.Omega.{arith}
use lib.Dec.{eqb}
use lib.ListN.{get_or}
use borrow.Author.Tests.{eq-eqb, eqb-true}
use Rattle.model.specs.Places.{along}
use Rattle.model.specs.Graph.{Edge, WellFormed}
use Rattle.model.specs.Path.{ToSink, end, link}
use Rattle.model.specs.Summary.{FromSource, begin, onward, EndingAt, StartingAt}
use Rattle.model.proofs.Places.{any_intro, any_elim}
use Rattle.model.proofs.Joined.{along-last, last-known}
use Rattle.model.proofs.Paths.{head-known}
use Rattle.graph.specs.Model.{as_model, from}
use Rattle.graph.specs.declared.Graph.{Graph}
use Rattle.starts.specs.Starts.{comes_from}
use Rattle.paths.specs.Ahead.{weigh, Weighed}
use Rattle.paths.specs.Along.{Visitable}
use Rattle.paths.proofs.Sums.{row-edge, row-joins, row_of, visitable}
use Rattle.summary.specs.Row.{many, nth, goes_to_next, Row}

module _ {g : Graph} {e st o : List ℕ} {n : ℕ} {w : List ℕ} (T : Weighed g e st o n w) where
  pub well_formed : WellFormed (as_model g)
  well_formed = T.rows.accepted.well_formed

  pub few : g.n ≤ 128
  few = T.rows.accepted.few_vertices

  -- the vertex at each place, and the place of each vertex
  pub vertex : (j : ℕ) → j < n → get_or o j 0 < g.n
  vertex j l = T.order.known j (rw T.vertices at l)

  pub place : ℕ → ℕ
  place = T.order.place

  pub place-below : (v : ℕ) → v < g.n → place v < n
  unfolding place
  place-below v l = omega (arith, T.vertices, T.order.within v l)

  pub place_at : (j : ℕ) → j < n → place (get_or o j 0) ≡ j
  unfolding place
  place_at j l = T.order.once j (rw T.vertices at l)

  pub vertex-at : (v : ℕ) → v < g.n → get_or o (place v) 0 ≡ v
  unfolding place
  vertex-at v l = T.order.stands v l

  -- ---- the edges

  spans : (u : ℕ) → u < g.n → Visitable e st w [] u
  spans u l = visitable T.rows T.light [] 0 (λ v m. omega arith) (omega arith) u l

  pub nth-joins : (u k : ℕ) → u < g.n → k < many st u → Edge (as_model g) u (nth e st u k)
  nth-joins u k l m = row-joins T.rows u (get_or st u 0 + k) l (omega arith) (omega (arith, (spans u l).row))

  pub nth_of : (u v : ℕ) → Edge (as_model g) u v → (k : ℕ) × (k < many st u) × (nth e st u k ≡ v)
  nth_of u v d =
      let r = row_of T.rows u v d in
      let z : get_or st u 0 + (r.0 - get_or st u 0) ≡ r.0 = omega (arith, r.1) in
      (r.0 - get_or st u 0, omega (arith, r.1, r.2), rw z r.3)

  pub row : (u : ℕ) → u < g.n → Row e st u
  unfolding as_model
  row u l =
      let s = spans u l in
      record {
        span = record { vertex = s.vertex; ascends = s.row; within = s.within };
        ends = λ k m. omega (arith, well_formed.to u (nth e st u k) (nth-joins u k l m), few);
      }

  pub goes-joins : (u v : ℕ) → u < g.n → goes_to_next e st u (many st u) v ≡ true → Edge (as_model g) u v
  goes-joins u v l t =
      let r = any_elim (λ j. eqb (nth e st u j) v) (many st u) t in
      rw (eqb-true (nth e st u r.0) v r.2) at (nth-joins u r.0 l r.1)

  pub joins-goes : (u v : ℕ) → Edge (as_model g) u v → goes_to_next e st u (many st u) v ≡ true
  joins-goes u v d =
      let r = nth_of u v d in any_intro (λ j. eqb (nth e st u j) v) (many st u) r.0 r.1 (eq-eqb (nth e st u r.0) v r.2)

  pub rises : (u v : ℕ) → Edge (as_model g) u v → place u < place v
  unfolding as_model place from
  rises u v d =
      let r = row_of T.rows u v d in
      let q = row-edge T.rows u r.0 (well_formed.from u v d) r.1 r.2 in
      let c : comes_from e r.0 ≡ u = ap (λ (l : List ℕ). comes_from l r.0) T.rows.edge ∙ q.1 in
      omega (arith, T.order.later r.0 q.0, ap place c, ap place r.3)

  -- ---- no sum is too large

  until-small : {p : List ℕ} {v : ℕ} → FromSource (as_model g) p v → along (weigh w) p ≤ 720720000000 * (place v + 1)
  unfolding along as_model
  until-small (begin {v = v} l s) = omega (arith, T.light v l)
  until-small {v = v} (onward {u = u} {p = p} c d) = omega (arith, until-small c, rises u v d, along-last (weigh w) p v, T.light v (well_formed.to u v d))

  since-small : {p : List ℕ} {v : ℕ} → ToSink (as_model g) (v ∷ p) → along (weigh w) (v ∷ p) ≤ 720720000000 * (n - place v)
  unfolding along as_model
  since-small {v = v} (end l s) = omega (arith, T.light v l, place-below v l)
  since-small {v = u} (link {v = v} d c) = omega (arith, since-small c, rises u v d, T.light u (well_formed.from u v d), place-below v (head-known well_formed c))

  pub ending-small : {v x : ℕ} → EndingAt (as_model g) (weigh w) v x → x ≤ 92252160000000
  unfolding as_model
  ending-small {v} a =
      omega (arith, a.attained, until-small a.from_source, place-below v (last-known well_formed a.from_source), T.vertices, few)

  pub starting-small : {v x : ℕ} → StartingAt (as_model g) (weigh w) v x → x ≤ 92252160000000
  starting-small {v} a = omega (arith, a.attained, since-small a.to_sink, T.vertices, few)
