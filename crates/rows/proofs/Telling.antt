-- What the bits of the rows tell of an accepted graph.
use mathlib.Core.Path.{◌≡◌, sym, ap, ◌∙◌}
use mathlib.Core.Logic.{◌⊎◌, inl, inr}
use mathlib.Core.Bool.{Bool, true, false, ◌&&◌}
use mathlib.Core.List.{List}
use Prim.Native.Nat.{ℕ, ◌+◌, ◌*◌, ◌≤◌, ◌<◌}
use native.Mathlib.Omega.{arith}
use lib.Dec.{eqb, ltb}
use lib.ListN.{get_or}
use borrow.Author.Tests.{eq-eqb, eqb-true, le-ltb, lt-ltb}
use Rattle.model.specs.Places.{bit, count, any, padded}
use Rattle.model.specs.Graph.{source}
use Rattle.model.specs.Cycle.{Walk, ancestor}
use Rattle.model.proofs.Bools.{cases, clash, both, left-of, right_of, not-true}
use Rattle.model.proofs.Places.{count_ext, any_intro, any_elim, any_false}
use Rattle.model.proofs.Paths.{source-tells}
use Rattle.model.proofs.Tables.{padded-at}
use Rattle.model.proofs.Turns.{count_past}
use Rattle.model.proofs.Cycles.{walk_last, ancestor_walk, walk_ancestor}
use Rattle.graph.specs.Model.{AcceptedGraph, as_model, to}
use Rattle.graph.specs.declared.Graph.{Graph}
use Rattle.starts.specs.Starts.{comes_from, leads_to}
use Rattle.vset.specs.Members.{is_in}
use Rattle.sets.specs.Sets.{row_of, Holds}
use Rattle.rows.specs.Rows.{predecessor, above, Kin, led_by}
use Rattle.rows.proofs.Learning.{predecessor-edge}

module _ {g : Graph} (G : AcceptedGraph g) {p a : List (List ℕ)} (K : Kin g p a) where
  -- THEOREM. Bit u of row v is set exactly where the edge list has the edge from u to v.
  pub predecessor-sound : (u v : ℕ) → v < 128 → is_in (row_of p v) u ≡ true → (i : ℕ) × (i < g.edges) × (get_or g.edge i 0 ≡ 256 * u + v)
  unfolding predecessor
  predecessor-sound u v l x =
      let r = any_elim (λ i. eqb (comes_from g.edge i) u && eqb (leads_to g.edge i) v) g.edges (sym (K.predecessors.row v u l) ∙ x) in
      let i = r.0 in
      let c = eqb-true (comes_from g.edge i) u (left-of (eqb (comes_from g.edge i) u) (eqb (leads_to g.edge i) v) r.2) in
      let d = eqb-true (leads_to g.edge i) v (right_of (eqb (comes_from g.edge i) u) (eqb (leads_to g.edge i) v) r.2) in
      (i, r.1, omega (arith, c, d))

  pub predecessor-complete : (u v i : ℕ) → v < 128 → i < g.edges → get_or g.edge i 0 ≡ 256 * u + v → is_in (row_of p v) u ≡ true
  unfolding predecessor
  predecessor-complete u v i l h e =
      K.predecessors.row v u l
      ∙ any_intro (λ i. eqb (comes_from g.edge i) u && eqb (leads_to g.edge i) v) g.edges i h
      (both (eqb (comes_from g.edge i) u) (eqb (leads_to g.edge i) v) (eq-eqb (comes_from g.edge i) u (omega (arith, e, l))) (eq-eqb (leads_to g.edge i) v (omega (arith, e, l))))

  -- THEOREM. Bit u of ancestor row v is set exactly where a walk goes from u to v.
  pub ancestor-sound : (u v : ℕ) → v < 128 → is_in (row_of a v) u ≡ true → Walk (as_model g) u v
  unfolding above
  ancestor-sound u v l x = ancestor_walk (as_model g) u v (right_of (ltb v (as_model g).n) (ancestor (as_model g) u v) (sym (K.ancestors.row v u l) ∙ x))

  pub ancestor-complete : (u v : ℕ) → Walk (as_model g) u v → is_in (row_of a v) u ≡ true
  unfolding above as_model
  ancestor-complete u v w =
      let r = walk_last w in
      let l : v < g.n = G.well_formed.to r.0 v r.1 in
      K.ancestors.row v u (omega (arith, l, G.few_vertices)) ∙ both (ltb v g.n) (ancestor (as_model g) u v) (lt-ltb v g.n l) (walk_ancestor G.well_formed w)

  -- THEOREM. Rows past the vertices are empty, and nobody is in its own.
  pub predecessor-past : (u v : ℕ) → g.n ≤ v → v < 128 → is_in (row_of p v) u ≡ false
  unfolding to
  predecessor-past u v h l = not-true (is_in (row_of p v) u) (λ x.
      let r = predecessor-sound u v l x in
      omega (arith, h, l, G.to_known r.0 r.1, r.2))

  pub ancestor-past : (u v : ℕ) → g.n ≤ v → v < 128 → is_in (row_of a v) u ≡ false
  unfolding above as_model
  ancestor-past u v h l = K.ancestors.row v u l ∙ ap (λ (b : Bool). b && ancestor (as_model g) u v) (le-ltb v g.n h)

  pub ancestor_other : (v : ℕ) → v < 128 → is_in (row_of a v) v ≡ false
  ancestor_other v l = not-true (is_in (row_of a v) v) (λ x. G.acyclic v (ancestor-sound v v l x))

-- THEOREM. The ones that row v has in common with a set of vertices are as many as the predecessors of v in that set.
pub ones-vertices : {g : Graph} → AcceptedGraph g → {p : List (List ℕ)} → Holds p (predecessor g.edge g.edges) → (q : ℕ → Bool) (v : ℕ) → v < 128
    → count (λ u. is_in (row_of p v) u && q u) 128 ≡ count (λ u. (as_model g).edge u v && q u) g.n
unfolding as_model
ones-vertices {g} G {p} H q v l =
    count_ext (λ u. is_in (row_of p v) u && q u) (λ u. (as_model g).edge u v && q u) 128 (λ u b. ap (λ (x : Bool). x && q u) (H.row v u l ∙ predecessor-edge g v u))
    ∙ count_past (λ u. (as_model g).edge u v && q u) g.n 128 G.few_vertices (λ u h b. ap (λ (x : Bool). x && q u) (not-true ((as_model g).edge u v) (λ t. omega (arith, h, G.well_formed.from u v t))))

-- THEOREM. The sources are the vertices whose row has no ones.
pub led-source : {g : Graph} → AcceptedGraph g → {p : List (List ℕ)} → Holds p (predecessor g.edge g.edges) → (x : List ℕ) → x ≡ padded 128 (led_by p) g.n → (v : ℕ) → v < g.n
    → eqb (get_or x v 0) 0 ≡ source (as_model g) v
unfolding led_by as_model
led-source {g} G {p} H x is v l =
    ap (λ (y : List ℕ). eqb (get_or y v 0) 0) is ∙ ap (λ (m : ℕ). eqb m 0) (padded-at 128 (led_by p) g.n v l) ∙ go (cases (any (is_in (row_of p v)) 128))
  where
    bit-edge : (u : ℕ) → is_in (row_of p v) u ≡ (as_model g).edge u v
    bit-edge u = H.row v u (omega (arith, G.few_vertices)) ∙ predecessor-edge g v u

    go : (any (is_in (row_of p v)) 128 ≡ true) ⊎ (any (is_in (row_of p v)) 128 ≡ false) → eqb (bit (any (is_in (row_of p v)) 128)) 0 ≡ source (as_model g) v
    go (inl t) =
        let r = any_elim (is_in (row_of p v)) 128 t in
        rw t (sym (not-true (source (as_model g) v) (λ s. (source-tells G.well_formed).sound v l s r.0 (sym (bit-edge r.0) ∙ r.2))))
    go (inr f) =
        rw f
        (sym ((source-tells G.well_formed).complete v l (λ u d.
        clash (bit-edge u ∙ d) (any_false (is_in (row_of p v)) 128 u (omega (arith, G.well_formed.from u v d, G.few_vertices)) f))))
