-- The number of unfinished direct predecessors. Counted over the vertices it is what is counted over the edge list, since no edge stands
-- there twice; so the numbers that the code keeps are these, and these only agree with themselves.
use mathlib.Core.Path.{◌≡◌, refl, sym, ap, ◌∙◌, fun_ext}
use mathlib.Core.Logic.{◌⊎◌, inl, inr, ⊎_elim}
use mathlib.Core.List.{List}
use mathlib.Core.Bool.{Bool, true, false, not, ◌&&◌, ◌||◌, and-true, and-false}
use Prim.Native.Nat.{ℕ, suc, ◌+◌, ◌-◌, ◌≤◌, ◌<◌}
use native.Mathlib.Omega.{arith}
use lib.Dec.{eqb, ltb}
use lib.ListN.{get_or, length}
use borrow.Author.Tests.{eq-eqb, eqb-true}
use Rattle.model.specs.Places.{any, count, padded}
use Rattle.model.specs.Graph as model
use Rattle.model.specs.Cycle.{one}
use Rattle.model.specs.ListSchedule.{finished}
use Rattle.model.proofs.Bools.{le-or-lt, not-true, both, left-of, right_of, same_test}
use Rattle.model.proofs.Places.{any_intro, any_elim, any_ext, any_none, count_ext, count_none, count-all, count_less}
use Rattle.model.proofs.Sums.{count-pairs}
use Rattle.model.proofs.Tables.{padded-length, padded-at, padded-past}
use Rattle.model.proofs.Turns.{as_padded}
use Rattle.graph.specs.declared.Graph.{Graph}
use Rattle.graph.specs.Model.{as_model, from, to, joins, AcceptedGraph}
use Rattle.graph.proofs.Edges.{edges_ascend}
use Rattle.vset.specs.declared.Vset.{Vset}
use Rattle.vset.specs.Members.{is_in, Members}
use Rattle.starts.specs.Starts.{comes_from, leads_to}
use Rattle.waiting.specs.Waiting.{entering, Settled}
use Rattle.ready.specs.Ready.{is_behind}
use Rattle.ready.proofs.Standing.{finished-is}
use Rattle.ready.proofs.ByNumbers.{settled-behind, behind-counted}
use Rattle.tick.specs.Run.{awaited}

-- a test that does not go by the place
any-with : (q : ℕ → Bool) (b : Bool) (m : ℕ) → any (λ i. q i && b) m ≡ any q m && b
any-with q true m = any_ext (λ i. q i && true) q m (λ i l. and-true (q i)) ∙ sym (and-true (any q m))
any-with q false m = any_none (λ i. q i && false) m (λ i l. and-false (q i)) ∙ sym (and-false (any q m))

not_neither : (a b : Bool) → not (not a && not b) ≡ a || b
not_neither true b = refl
not_neither false true = refl
not_neither false false = refl

module _ (g : Graph) (A : AcceptedGraph g) where
  abbrev G : model.Graph
  G = as_model g

  -- no edge stands at two places
  apart : (i k : ℕ) → i < g.edges → k < g.edges → get_or g.edge i 0 ≡ get_or g.edge k 0 → i ≡ k
  apart i k a b e = go (le-or-lt i k) (le-or-lt k i)
    where
      below : (i k : ℕ) → i < k → k < g.edges → get_or g.edge i 0 < get_or g.edge k 0
      below i k l h =
          let s : suc i + (k - suc i) ≡ k = omega arith in
          omega (arith, A.ascending i (omega arith), rw s at (edges_ascend A (suc i) (k - suc i) (omega arith)))

      go : (i ≤ k) ⊎ (k < i) → (k ≤ i) ⊎ (i < k) → i ≡ k
      go (inr l) x = absurd (omega (arith, below k i l a))
      go (inl l) (inr m) = absurd (omega (arith, below i k m b))
      go (inl l) (inl m) = omega arith

  -- ---- over the vertices as over the edges

  module _ (p : ℕ → Bool) (v : ℕ) where
    over-vertices : count (λ u. any (λ i. joins g u v i && p u) g.edges) g.n ≡ count (λ u. G.edge u v && p u) g.n
    unfolding as_model
    over-vertices = count_ext (λ u. any (λ i. joins g u v i && p u) g.edges) (λ u. any (joins g u v) g.edges && p u) g.n (λ u l. any-with (joins g u v) (p u) g.edges)

    one-edge : (i : ℕ) → i < g.edges → any (λ u. joins g u v i && p u) g.n ≡ p (comes_from g.edge i) && eqb (leads_to g.edge i) v
    unfolding joins from to
    one-edge i l = same_test (any test g.n) (p f && eqb t v) there back
      where
        f : ℕ
        f = comes_from g.edge i

        t : ℕ
        t = leads_to g.edge i

        test : ℕ → Bool
        test u = (eqb f u && eqb t v) && p u

        there : any test g.n ≡ true → p f && eqb t v ≡ true
        there h =
            let u = any_elim test g.n h in
            let j = left-of (eqb f u.0 && eqb t v) (p u.0) u.2 in
            both (p f) (eqb t v) (ap p (eqb-true f u.0 (left-of (eqb f u.0) (eqb t v) j)) ∙ right_of (eqb f u.0 && eqb t v) (p u.0) u.2) (right_of (eqb f u.0) (eqb t v) j)

        back : p f && eqb t v ≡ true → any test g.n ≡ true
        back h = any_intro test g.n f (A.from_known i l) (both (eqb f f && eqb t v) (p f) (both (eqb f f) (eqb t v) (eq-eqb f f refl) (right_of (p f) (eqb t v) h)) (left-of (p f) (eqb t v) h))

    over-edges : count (λ i. any (λ u. joins g u v i && p u) g.n) g.edges ≡ entering g.edge p g.edges v
    unfolding entering
    over-edges = count_ext (λ i. any (λ u. joins g u v i && p u) g.n) (λ i. p (comes_from g.edge i) && eqb (leads_to g.edge i) v) g.edges one-edge

    pub entering-vertices : entering g.edge p g.edges v ≡ count (λ u. G.edge u v && p u) g.n
    unfolding joins from to
    entering-vertices = sym over-edges ∙ sym (count-pairs (λ i u. joins g u v i && p u) g.edges g.n once at_once) ∙ over-vertices
      where
        start : (i u : ℕ) → joins g u v i && p u ≡ true → (comes_from g.edge i ≡ u) × (leads_to g.edge i ≡ v)
        start i u h =
            let j = left-of (joins g u v i) (p u) h in
            (eqb-true (comes_from g.edge i) u (left-of (eqb (comes_from g.edge i) u) (eqb (leads_to g.edge i) v) j), eqb-true (leads_to g.edge i) v (right_of (eqb (comes_from g.edge i) u) (eqb (leads_to g.edge i) v) j))

        once : (i u w : ℕ) → i < g.edges → u < g.n → w < g.n → joins g u v i && p u ≡ true → joins g w v i && p w ≡ true → u ≡ w
        once i u w l a b x y = sym (start i u x).0 ∙ (start i w y).0

        at_once : (i k u : ℕ) → i < g.edges → k < g.edges → u < g.n → joins g u v i && p u ≡ true → joins g u v k && p u ≡ true → i ≡ k
        at_once i k u a b l x y =
            let q = start i u x in
            let r = start k u y in
            apart i k a b (omega (arith, q.0, q.1, r.0, r.1))

  -- ---- the numbers that are kept

  module _ (c : ℕ → ℕ) (p : ℕ → Bool) (is : (u : ℕ) → p u ≡ ltb 0 (c u)) where
    abbrev number : ℕ → ℕ
    number = entering g.edge (λ u. p u || is_behind G p u) g.edges

    unfinished : (u : ℕ) → u < g.n → p u || is_behind G p u ≡ not (finished G c u)
    unfolding as_model
    unfinished u l =
        sym (not_neither (p u) (is_behind G p u))
        ∙ ap not (ap (λ (q : ℕ → Bool). not (q u) && not (is_behind G q u)) (fun_ext is) ∙ sym (finished-is A.well_formed A.acyclic c u l))

    number_is : (v : ℕ) → number v ≡ awaited G c v
    unfolding awaited as_model
    number_is v =
        entering-vertices (λ u. p u || is_behind G p u) v
        ∙ count_ext (λ u. G.edge u v && (p u || is_behind G p u)) (λ u. G.edge u v && not (finished G c u)) g.n (λ u l. ap (λ (b : Bool). G.edge u v && b) (unfinished u l))

    -- no edge leads to a place from N on
    number_past : (v : ℕ) → g.n ≤ v → number v ≡ 0
    unfolding entering to
    number_past v h =
        count_none _ g.edges (λ i l. not-true _ (λ t.
        omega (arith, A.to_known i l, eqb-true (leads_to g.edge i) v (right_of (p (comes_from g.edge i) || is_behind G p (comes_from g.edge i)) (eqb (leads_to g.edge i) v) t))))

    -- THEOREM. The numbers that the code keeps are the numbers of unfinished direct predecessors.
    pub settled-awaited : (w : List ℕ) (b : Vset) → Settled g.edge g.edges w p b → w ≡ padded 128 (awaited G c) g.n
    settled-awaited w b S =
        as_padded (awaited G c) 128 g.n w A.few_vertices S.long (λ v l. at v (omega (arith, l, A.few_vertices)) ∙ number_is v) (λ v l h. at v h ∙ number_past v l)
      where
        at : (v : ℕ) → v < 128 → get_or w v 0 ≡ number v
        at v h = S.counts v h ∙ ap (λ (q : ℕ → Bool). entering g.edge (λ u. p u || q u) g.edges v) (fun_ext (settled-behind g A w p b S))

    -- THEOREM. And these are such numbers.
    pub awaited-settled : (w : List ℕ) (b : Vset) → w ≡ padded 128 (awaited G c) g.n → Members b (λ v. ltb 0 (get_or w v 0)) → Settled g.edge g.edges w p b
    awaited-settled w b e m = record {
      long = ap (λ (l : List ℕ). length l) e ∙ padded-length 128 (awaited G c) g.n A.few_vertices;
      counts = λ v h. at v ∙ ap (λ (q : ℕ → Bool). entering g.edge (λ u. p u || q u) g.edges v) (fun_ext (λ u. sym (stands u)));
      stand = m;
    }
      where
        at : (v : ℕ) → get_or w v 0 ≡ number v
        at v =
            ap (λ (l : List ℕ). get_or l v 0) e
            ∙ ⊎_elim (λ (h : g.n ≤ v). padded-past 128 (awaited G c) g.n v h ∙ sym (number_past v h)) (λ (h : v < g.n). padded-at 128 (awaited G c) g.n v h ∙ sym (number_is v)) (le-or-lt g.n v)

        stands : (u : ℕ) → is_in b u ≡ is_behind G p u
        stands u = m.are u ∙ ap (ltb 0) (at u) ∙ behind-counted g A p u

  -- THEOREM. No vertex has more than 127 direct predecessors, since none is its own.
  pub awaited-most : (c : ℕ → ℕ) (v : ℕ) → awaited G c v ≤ 127
  unfolding awaited as_model
  awaited-most c v =
      ⊎_elim
      (λ (h : g.n ≤ v). omega (arith, count_none test g.n (λ u l. not-true (test u) (λ t. omega (arith, A.well_formed.to u v (edge u t))))))
      (λ (h : v < g.n).
      omega (arith, A.few_vertices, count-all (λ u. true) g.n (λ u l. refl), count_less test (λ u. true) v g.n h (λ u l t. refl) refl (not-true (test v) (λ t. A.acyclic v (one (edge v t))))))
      (le-or-lt g.n v)
    where
      test : ℕ → Bool
      test u = any (joins g u v) g.edges && not (finished (as_model g) c u)

      edge : (u : ℕ) → test u ≡ true → any (joins g u v) g.edges ≡ true
      edge u t = left-of (any (joins g u v) g.edges) (not (finished (as_model g) c u)) t
