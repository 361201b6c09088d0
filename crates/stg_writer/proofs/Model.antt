-- What was gathered, as the graph of the model has it: who is a source or a sink, and the text.
use mathlib.Core.Path.{◌≡◌, refl, sym, ap, ◌∙◌}
use mathlib.Core.Bool.{Bool, true, false, ◌||◌}
use mathlib.Core.List.{List, [], ◌∷◌, ◌++◌}
use Prim.Native.Nat.{ℕ, zero, suc, ◌+◌, ◌-◌, ◌≤◌, ◌<◌}
use native.Mathlib.Omega.{arith}
use lib.ListN.{get_or}
use lib.Dec.{eqb, ltb}
use borrow.Author.Tests.{eq-eqb}
use Rattle.model.specs.Places.{any, that}
use Rattle.model.specs.Graph.{Edge, source, sink}
use Rattle.model.proofs.Bools.{same_test, both, left-of, not-true}
use Rattle.model.proofs.Places.{any_ext, any_intro, any_elim}
use Rattle.graph.specs.Model.{AcceptedGraph, as_model, joins, from, to}
use Rattle.graph.specs.declared.Graph.{Graph}
use Rattle.vset.specs.Members.{is_in}
use Rattle.vset.specs.declared.Vset.{Vset}
use Rattle.sets.specs.Sets.{row_of}
use Rattle.starts.specs.Starts.{comes_from, leads_to}
use Rattle.writer.proofs.Joined.{joined_ext}
use Rattle.stg_text.specs.Canonical.{line_of, before, task_of, task_line_of, lay_out_of, text_of}
use Rattle.stg_text.specs.Answers.{other_source, other_sink, other_ends_of}
use Rattle.stg_text.proofs.Those.{those_ext, those_quiet}
use Rattle.stg_line.specs.Laid.{task_text}
use Rattle.stg_writer.specs.Before.{joins_in, Gathered, other_end_of, ends_other, line_in, lines_in, text_in}

any-or : (p q : ℕ → Bool) (n : ℕ) → any (λ v. p v || q v) n ≡ any p n || any q n
unfolding any
any-or p q zero = refl
any-or p q (suc n) = rw (any-or p q n) (go (any p n) (any q n) (p n) (q n))
  where
    go : (a b c d : Bool) → (a || b) || (c || d) ≡ (a || c) || (b || d)
    go true b c d = refl
    go false true true d = refl
    go false true false d = refl
    go false false c d = refl

module _ (h : Graph) (G : AcceptedGraph h) (s : Vset) (t : List (List ℕ)) (L : Gathered h.edge h.edges s t) where
  edge_in : (u v : ℕ) → u < 128 → v < 128 → is_in (row_of t v) u ≡ (as_model h).edge u v
  unfolding joins_in joins from to as_model
  edge_in u v a b = L.rows u v a b ∙ any_ext (joins_in h.edge u v) (joins h u v) h.edges (λ i l. refl)

  known_from : (u v : ℕ) → Edge (as_model h) u v → u < h.n
  unfolding as_model
  known_from u v e = G.well_formed.from u v e

  known-to : (u v : ℕ) → Edge (as_model h) u v → v < h.n
  unfolding as_model
  known-to u v e = G.well_formed.to u v e

  sources : (v : ℕ) → v < h.n → any (is_in (row_of t v)) 128 ≡ any (λ u. (as_model h).edge u v) h.n
  sources v l =
      let few = G.few_vertices in
      same_test (any (is_in (row_of t v)) 128) (any (λ u. (as_model h).edge u v) h.n)
      (λ e. let r = any_elim (is_in (row_of t v)) 128 e in
      let k = sym (edge_in r.0 v r.1 (omega arith)) ∙ r.2 in
      any_intro (λ u. (as_model h).edge u v) h.n r.0 (known_from r.0 v k) k)
      (λ e. let r = any_elim (λ u. (as_model h).edge u v) h.n e in
      let m : r.0 < 128 = omega (arith, r.1) in
      any_intro (is_in (row_of t v)) 128 r.0 m (edge_in r.0 v m (omega arith) ∙ r.2))

  sinks : (v : ℕ) → is_in s v ≡ any (λ u. (as_model h).edge v u) h.n
  unfolding as_model joins from to
  sinks v =
      L.some v
      ∙ same_test (any (λ i. eqb (comes_from h.edge i) v) h.edges) (any (λ u. (as_model h).edge v u) h.n)
      (λ e. let r = any_elim (λ i. eqb (comes_from h.edge i) v) h.edges e in
      let i : ℕ = r.0 in
      let k : (as_model h).edge v (leads_to h.edge i) ≡ true = any_intro (joins h v (leads_to h.edge i)) h.edges i r.1 (both (eqb (comes_from h.edge i) v) (eqb (leads_to h.edge i) (leads_to h.edge i)) r.2 (eq-eqb (leads_to h.edge i) (leads_to h.edge i) refl)) in
      any_intro (λ u. (as_model h).edge v u) h.n (leads_to h.edge i) (known-to v (leads_to h.edge i) k) k)
      (λ e. let r = any_elim (λ u. (as_model h).edge v u) h.n e in
      let q = any_elim (joins h v r.0) h.edges r.2 in
      any_intro (λ i. eqb (comes_from h.edge i) v) h.edges q.0 q.1 (left-of (eqb (comes_from h.edge q.0) v) (eqb (leads_to h.edge q.0) r.0) q.2))

  other-here : (v : ℕ) → v < h.n → other_end_of h.n t s v ≡ other_source h v || other_sink h v
  unfolding other_end_of other_source other_sink source sink as_model
  other-here v l = rw (sources v l, sinks v) refl

  pub ends_same : ends_other h.n t s h.wcet ≡ other_ends_of h
  unfolding ends_other other_ends_of as_model
  ends_same =
      rw (any_ext (other_end_of h.n t s) (λ v. other_source h v || other_sink h v) h.n other-here, any-or (other_source h) (other_sink h) h.n)
      (go (ltb h.n 3) (any (other_source h) h.n) (any (other_sink h) h.n) (ltb 0 (get_or h.wcet 0 0) || ltb 0 (get_or h.wcet (h.n - 1) 0)))
    where
      go : (a b c d : Bool) → a || ((b || c) || d) ≡ a || (b || (c || d))
      go true b c d = refl
      go false true c d = refl
      go false false c d = refl

  -- ---- the text

  those-same : (v : ℕ) → v < h.n → that (is_in (row_of t v)) 128 ≡ that (λ u. (as_model h).edge u v) h.n
  those-same v l =
      let few = G.few_vertices in
      let d : h.n + (128 - h.n) ≡ 128 = omega arith in
      those_ext (is_in (row_of t v)) (λ u. (as_model h).edge u v) 128 (λ u b. edge_in u v b (omega arith))
      ∙ rw d at (those_quiet (λ u. (as_model h).edge u v) h.n (128 - h.n) (λ u a b. not-true ((as_model h).edge u v) (λ e. let k = known_from u v e in omega arith)))

  line_same : 2 ≤ h.n → (v : ℕ) → v < h.n → line_in t h.wcet v ≡ task_line_of (h.n - 2) (as_model h).wcet (as_model h).edge v
  unfolding line_in task_text task_line_of task_of before as_model
  line_same m v l = let e : h.n - 2 + 2 ≡ h.n = omega arith in rw (those-same v l, e) refl

  pub text_same : 2 ≤ h.n → text_in h.n t h.wcet ≡ text_of h
  unfolding text_in lines_in text_of lay_out_of
  text_same m =
      let e : h.n - 2 + 2 ≡ h.n = omega arith in
      rw e (ap (λ (x : List ℕ). line_of ((h.n - 2) ∷ []) ++ x) (joined_ext (line_in t h.wcet) (task_line_of (h.n - 2) (as_model h).wcet (as_model h).edge) h.n (line_same m)))
