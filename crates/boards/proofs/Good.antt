-- Where no point is worse, order 11's theorems apply: `AsGood` says that h is at least as good as g in the model's sense, and `FewerEdges` that it is so but
-- for edges that are missing. So what `plan compare` promises holds of every two accepted graphs.
use mathlib.Core.Path.{◌≡◌, refl, sym, ap, ◌∙◌}
use mathlib.Core.Bool.{Bool, true, false, ◌&&◌}
use mathlib.Core.List.{List}
use Prim.Native.Nat.{ℕ, ◌≤◌, ◌<◌, ◌/◌, ◌%◌}
use native.Mathlib.Omega.{arith}
use lib.Dec.{eqb, ltb}
use lib.ListN.{get_or}
use borrow.Author.Tests.{eqb-true, ltb-false, not-false}
use Rattle.model.specs.Places.{pick, any, first}
use Rattle.model.specs.Better.{NoWorse, Better, Looser}
use Rattle.model.proofs.Bools.{clash}
use Rattle.model.proofs.Places.{first_below, any_ext, any_intro, any_elim}
use Rattle.graph.specs.Model.{as_model, joins, from, to}
use Rattle.graph.specs.declared.Graph.{Graph}
use Rattle.boards.specs.Points.{lower, differ, is_new_of, found, new_point, edge_point, stage_point, point_of}
use Rattle.boards.specs.declared.Point.{Point}
use Rattle.boards.specs.declared.Point.TheVariants.{AsGood, FewerEdges, Kinds, Stages, Cores, Kind, Wcet, Edge}

-- ---- which points tell that h is as good, and which one that its edges are too

abbrev good : Point → Bool
good AsGood = true
good FewerEdges = true
good Kinds = false
good Stages = false
good (Cores s) = false
good (Kind v) = false
good (Wcet v) = false
good (Edge i) = false

abbrev same : Point → Bool
same AsGood = true
same FewerEdges = false
same Kinds = false
same Stages = false
same (Cores s) = false
same (Kind v) = false
same (Wcet v) = false
same (Edge i) = false

other : (f : Point → Bool) {p q : Point} → f q ≡ true → f p ≡ false → p ≡ q → ⊥
other f t n e = clash (ap f e ∙ t) n

-- ---- what a point tells of the tests before it

left_picked : (b : Bool) (x y q : Point) → pick b x y ≡ q → (y ≡ q → ⊥) → (b ≡ true) × (x ≡ q)
left_picked true x y q e n = (refl, e)
left_picked false x y q e n = absurd (n e)

right_picked : (b : Bool) (x y q : Point) → pick b x y ≡ q → (x ≡ q → ⊥) → (b ≡ false) × (y ≡ q)
right_picked true x y q e n = absurd (n e)
right_picked false x y q e n = (refl, e)

nowhere : (p : ℕ → Bool) (n : ℕ) → ltb (first p n) n ≡ false → (u : ℕ) → u < n → p u ≡ false
nowhere p n e u l = first_below p n u (omega (arith, ltb-false (first p n) n e))

passed : (p : ℕ → Bool) (n : ℕ) (point : ℕ → Point) (rest q : Point) → found point (first p n) n rest ≡ q → (point (first p n) ≡ q → ⊥) → ((u : ℕ) → u < n → p u ≡ false) × (rest ≡ q)
unfolding found
passed p n point rest q e d =
    let r = right_picked (ltb (first p n) n) (point (first p n)) rest q e d in (nowhere p n r.0, r.1)

not_lower : (a b : List ℕ) (u : ℕ) → lower a b u ≡ false → get_or a u 0 ≤ get_or b u 0
unfolding lower
not_lower a b u e = ltb-false (get_or b u 0) (get_or a u 0) e

no_difference : (a b : List ℕ) (u : ℕ) → differ a b u ≡ false → get_or b u 0 ≡ get_or a u 0
unfolding differ
no_difference a b u e = sym (eqb-true (get_or a u 0) (get_or b u 0) (not-false _ e))

-- ---- all but the edges

module _ (g h : Graph) (q : Point) (ok : good q ≡ true) (e : point_of g h ≡ q) where
  no-worse-but : NoWorse (as_model g) (as_model h) × (edge_point g h ≡ q)
  unfolding point_of stage_point as_model
  no-worse-but =
      let a = left_picked (eqb g.kinds h.kinds) _ Kinds q e (other good ok refl) in
      let b = left_picked (eqb g.n h.n) _ Stages q a.1 (other good ok refl) in
      let c = passed (lower g.cores h.cores) g.kinds Cores _ q b.1 (other good ok refl) in
      let d = passed (differ g.kind h.kind) g.n Kind _ q c.1 (other good ok refl) in
      let f = passed (lower h.wcet g.wcet) g.n Wcet _ q d.1 (other good ok refl) in (
        record {
          same_n = sym (eqb-true g.n h.n b.0);
          same_kinds = sym (eqb-true g.kinds h.kinds a.0);
          same_kind = λ v l. no_difference g.kind h.kind v (d.0 v l);
          more_cores = λ s l. not_lower g.cores h.cores s (c.0 s l);
          less_work = λ v l. not_lower h.wcet g.wcet v (f.0 v l);
        },
        f.1,
      )

-- ---- the edges

not_same : (g h : Graph) → new_point g h ≡ AsGood → ⊥
unfolding new_point found
not_same g h =
    go (first (is_new_of g.edge g.edges h.edge) h.edges) (ltb (first (is_new_of g.edge g.edges h.edge) h.edges) h.edges)
  where
    go : (x : ℕ) (b : Bool) → pick b (Edge x) FewerEdges ≡ AsGood → ⊥
    go x true = other same refl refl
    go x false = other same refl refl

joined_too : (g h : Graph) (u v i j : ℕ) → get_or h.edge i 0 ≡ get_or g.edge j 0 → joins h u v i ≡ joins g u v j
unfolding joins from to
joined_too g h u v i j e = ap (λ (x : ℕ). eqb (x / 256) u && eqb (x % 256) v) e

-- THEOREM. Where it is `AsGood`, h is at least as good as g in every point.
pub as_good : (g h : Graph) → point_of g h ≡ AsGood → Better (as_model g) (as_model h)
unfolding edge_point as_model
as_good g h e =
    let r = no-worse-but g h AsGood refl e in
    let a = left_picked (eqb g.edges h.edges) _ (new_point g h) AsGood r.1 (not_same g h) in
    let b = right_picked (ltb (first (differ g.edge h.edge) g.edges) g.edges) (new_point g h) _ AsGood a.1 (not_same g h) in
    record {
      no_worse = r.0;
      same_edges = λ u v.
          ap (λ (m : ℕ). any (joins h u v) m) (sym (eqb-true g.edges h.edges a.0))
          ∙ any_ext (joins h u v) (joins g u v) g.edges
          (λ i l. joined_too g h u v i i (no_difference g.edge h.edge i (nowhere (differ g.edge h.edge) g.edges b.0 i l)));
    }

old-edge : (g h : Graph) (i : ℕ) → is_new_of g.edge g.edges h.edge i ≡ false → (j : ℕ) × (j < g.edges) × (get_or h.edge i 0 ≡ get_or g.edge j 0)
unfolding is_new_of
old-edge g h i e =
    let r = any_elim (λ j. eqb (get_or g.edge j 0) (get_or h.edge i 0)) g.edges (not-false _ e) in
    (r.0, r.1, sym (eqb-true _ _ r.2))

fewer : (g h : Graph) → edge_point g h ≡ FewerEdges → new_point g h ≡ FewerEdges
unfolding edge_point
fewer g h = go (eqb g.edges h.edges) (ltb (first (differ g.edge h.edge) g.edges) g.edges)
  where
    go : (a b : Bool) → pick a (pick b (new_point g h) AsGood) (new_point g h) ≡ FewerEdges → new_point g h ≡ FewerEdges
    go true true e = e
    go true false e = absurd (other same refl refl (sym e))
    go false b e = e

-- THEOREM. Where it is `FewerEdges`, h is at least as good as g but for edges that are missing.
pub as_good_but_edges : (g h : Graph) → point_of g h ≡ FewerEdges → Looser (as_model g) (as_model h)
unfolding new_point as_model
as_good_but_edges g h e =
    let r = no-worse-but g h FewerEdges refl e in
    let n = passed (is_new_of g.edge g.edges h.edge) h.edges Edge _ FewerEdges (fewer g h r.1) (other good refl refl) in
    record {
      no_worse = r.0;
      old_edges = λ u v t.
          let i = any_elim (joins h u v) h.edges t in
          let j = old-edge g h i.0 (n.0 i.0 i.1) in
          any_intro (joins g u v) g.edges j.0 j.1 (sym (joined_too g h u v i.0 j.0 j.2) ∙ i.2);
    }
