-- Why one pass along the order, from its first vertex to its last, finds the ancestors. The predecessors of a vertex stand at earlier places,
-- where the rows are done, and no later store changes them.
use mathlib.Core.Path.{◌≡◌, refl, sym, ap, ◌∙◌}
use mathlib.Core.Logic.{◌⊎◌, inl, inr}
use mathlib.Core.Bool.{Bool, true, false, ◌&&◌, ◌||◌}
use mathlib.Core.List.{List}
use Prim.Native.Nat.{ℕ, ◌+◌, ◌≤◌, ◌<◌}
use native.Mathlib.Omega.{arith}
use native.Mathlib.Decide.{ℕ_discrete}
use lib.Dec.{ltb}
use lib.ListN.{get_or, set}
use borrow.Author.Tests.{lt-ltb, le-ltb}
use Rattle.model.specs.Places.{any}
use Rattle.model.specs.Graph.{Edge, WellFormed}
use Rattle.model.specs.Cycle.{Walk, one, ancestor}
use Rattle.model.proofs.Bools.{both, left-of, right_of, or_left, or_right, or_cases, same_test, le-or-lt}
use Rattle.model.proofs.Places.{any_intro, any_elim}
use Rattle.model.proofs.Cycles.{walk_join, walk_last, ancestor_walk, walk_ancestor}
use Rattle.graph.specs.Model.{as_model, joins, from, to}
use Rattle.graph.specs.declared.Graph.{Graph}
use Rattle.graph.proofs.Edges.{edge-place}
use Rattle.vset.specs.declared.Vset.{Vset}
use Rattle.vset.specs.Members.{is_in, Members}
use Rattle.starts.specs.Starts.{comes_from, leads_to}
use Rattle.sets.specs.Sets.{row_of, words_of, empty, Table, Holds}
use Rattle.rows.specs.Rows.{predecessor, above}
use Rattle.rows.specs.Gathered.{gathered, Lined}
use Rattle.sets.proofs.Tables.{put-table, in_same, in_other, empty-table, empty_in}

-- the edges of the list are those of the graph
pub predecessor-edge : (g : Graph) (v u : ℕ) → predecessor g.edge g.edges v u ≡ (as_model g).edge u v
unfolding predecessor as_model joins from to
predecessor-edge g v u = refl

module _ {g : Graph} {o : List ℕ} {n : ℕ} {p : List (List ℕ)} (T : Lined g o n p) where
  formed : WellFormed (as_model g)
  formed = T.accepted.well_formed

  pub few : n ≤ 128
  few = omega (arith, T.vertices, T.accepted.few_vertices)

  -- the vertex at each place, and the place of each vertex
  pub vertex : (j : ℕ) → j < n → get_or o j 0 < g.n
  vertex j l = T.order.known j (rw T.vertices at l)

  abbrev place : ℕ → ℕ
  place = T.order.place

  rises : (u v : ℕ) → Edge (as_model g) u v → place u < place v
  unfolding from to
  rises u v d =
      let r = edge-place g u v d in
      let a : comes_from g.edge r.place ≡ u = r.is-from in
      let b : leads_to g.edge r.place ≡ v = r.is-to in
      omega (arith, T.order.later r.place r.within, ap T.order.place a, ap T.order.place b)

  -- the row of v has just the predecessors
  led : (u v : ℕ) → v < g.n → is_in (row_of p v) u ≡ true → Edge (as_model g) u v
  led u v l x = sym (predecessor-edge g v u) ∙ (sym (T.predecessors.row v u (omega (arith, T.accepted.few_vertices))) ∙ x)

  leads : (u v : ℕ) → v < g.n → Edge (as_model g) u v → is_in (row_of p v) u ≡ true
  leads u v l d = T.predecessors.row v u (omega (arith, T.accepted.few_vertices)) ∙ (predecessor-edge g v u ∙ d)

  pub record Learnt (t : List (List ℕ)) (j : ℕ) : Type 0 where
    pub table : Table t
    pub sound : (v w : ℕ) → v < g.n → place v < j → is_in (row_of t v) w ≡ true → Walk (as_model g) w v
    pub complete : (v w : ℕ) → v < g.n → place v < j → Walk (as_model g) w v → is_in (row_of t v) w ≡ true
    pub past : (v w : ℕ) → g.n ≤ v → v < 128 → is_in (row_of t v) w ≡ false

  pub learnt_none : Learnt empty 0
  learnt_none = record {
    table = empty-table;
    sound = λ v w l h x. absurd (omega arith);
    complete = λ v w l h x. absurd (omega arith);
    past = λ v w l h. empty_in v w h;
  }

  module _ (t : List (List ℕ)) (j : ℕ) (l : j < n) (L : Learnt t j) (s : Vset) (S : Members s (gathered t (row_of p (get_or o j 0)))) where
    abbrev u : ℕ
    u = get_or o j 0

    known : u < g.n
    known = vertex j l

    small : u < 128
    small = omega (arith, known, T.accepted.few_vertices)

    here : place u ≡ j
    here = T.order.once j (rw T.vertices at l)

    own-sound : (w : ℕ) → is_in s w ≡ true → Walk (as_model g) w u
    unfolding gathered as_model
    own-sound w x = go (or_cases (is_in (row_of p u) w) (any (λ k. is_in (row_of p u) k && is_in (row_of t k) w) 128) (sym (S.are w) ∙ x))
      where
        go : (is_in (row_of p u) w ≡ true) ⊎ (any (λ k. is_in (row_of p u) k && is_in (row_of t k) w) 128 ≡ true) → Walk (as_model g) w u
        go (inl a) = one (led w u known a)
        go (inr a) =
            let r = any_elim (λ k. is_in (row_of p u) k && is_in (row_of t k) w) 128 a in
            let k = r.0 in
            let d = led k u known (left-of (is_in (row_of p u) k) (is_in (row_of t k) w) r.2) in
            walk_join (L.sound k w (formed.from k u d) (omega (arith, rises k u d, here)) (right_of (is_in (row_of p u) k) (is_in (row_of t k) w) r.2)) (one d)

    own-complete : (w : ℕ) → Walk (as_model g) w u → is_in s w ≡ true
    unfolding gathered as_model
    own-complete w x = let r = walk_last x in S.are w ∙ go r.0 r.1 r.2
      where
        others : ℕ → Bool
        others k = is_in (row_of p u) k && is_in (row_of t k) w

        go : (k : ℕ) → Edge (as_model g) k u → (w ≡ k) ⊎ Walk (as_model g) w k → is_in (row_of p u) w || any others 128 ≡ true
        go k d (inl q) = or_left (is_in (row_of p u) w) (any others 128) (leads w u known (rw (← q) at d))
        go k d (inr y) =
            let m = formed.from k u d in
            or_right (is_in (row_of p u) w) (any others 128)
            (any_intro others 128 k (omega (arith, m, T.accepted.few_vertices)) (both (is_in (row_of p u) k) (is_in (row_of t k) w) (leads k u known d) (L.complete k w m (omega (arith, rises k u d, here)) y)))

    -- who stands at an earlier place is another
    earlier : (v : ℕ) → v < g.n → place v < j + 1 → (v ≡ u → ⊥) → place v < j
    earlier v m h d = go (ℕ_discrete (place v) j)
      where
        go : Dec (place v ≡ j) → place v < j
        go (yes z) = absurd (d (sym (T.order.stands v m) ∙ ap (λ (i : ℕ). get_or o i 0) z))
        go (no z) = omega arith

    pub learnt_more : Learnt (set t u (words_of s)) (j + 1)
    learnt_more = record {
      table = put-table t u s L.table small S;
      sound = λ v w m h. sound v w m h (ℕ_discrete v u);
      complete = λ v w m h. complete v w m h (ℕ_discrete v u);
      past = λ v w m h. in_other t u s L.table small v w (λ q. omega (arith, known)) ∙ L.past v w m h;
    }
      where
        sound : (v w : ℕ) → v < g.n → place v < j + 1 → Dec (v ≡ u) → is_in (row_of (set t u (words_of s)) v) w ≡ true → Walk (as_model g) w v
        sound v w m h (yes q) x = rw q (own-sound w (sym (in_same t u s L.table small w) ∙ (rw q at x)))
        sound v w m h (no q) x = L.sound v w m (earlier v m h q) (sym (in_other t u s L.table small v w q) ∙ x)

        complete : (v w : ℕ) → v < g.n → place v < j + 1 → Dec (v ≡ u) → Walk (as_model g) w v → is_in (row_of (set t u (words_of s)) v) w ≡ true
        complete v w m h (yes q) x = rw q (in_same t u s L.table small w ∙ own-complete w (rw q at x))
        complete v w m h (no q) x = in_other t u s L.table small v w q ∙ L.complete v w m (earlier v m h q) x

  -- THEOREM. After the whole order the rows are the ancestors.
  pub learnt_all : (t : List (List ℕ)) → Learnt t n → Holds t (above (as_model g))
  unfolding above as_model
  learnt_all t L = record { table = L.table; row = λ v w l. go v w l (le-or-lt g.n v) }
    where
      go : (v w : ℕ) → v < 128 → (g.n ≤ v) ⊎ (v < g.n) → is_in (row_of t v) w ≡ ltb v g.n && ancestor (as_model g) w v
      go v w l (inl h) = rw (le-ltb v g.n h) (L.past v w h l)
      go v w l (inr h) =
          let b : place v < n = omega (arith, T.order.within v h, T.vertices) in
          rw (lt-ltb v g.n h) (same_test (is_in (row_of t v) w) (ancestor (as_model g) w v) (λ x. walk_ancestor formed (L.sound v w h b x)) (λ x. L.complete v w h b (ancestor_walk (as_model g) w v x)))
