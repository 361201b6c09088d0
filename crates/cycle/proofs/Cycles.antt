-- Everyone in the line has told its successors. Where the line has all the vertices, it goes along the edges, and no walk is as long as
-- the line. Where somebody is left, it waits for another who is left, and so on: there are walks of every length, so there is a cycle.
use mathlib.Core.Path.{◌≡◌, refl, sym, ap, subst, ◌∙◌}
use mathlib.Core.Logic.{⊎_elim}
use mathlib.Core.List.{List}
use mathlib.Core.Bool.{true, false, not, ◌&&◌}
use Prim.Native.Nat.{ℕ, zero, suc, ◌≤◌, ◌<◌, zero-le}
use native.Mathlib.Omega.{arith}
use native.Mathlib.Decide.{ℕ_discrete}
use lib.Dec.{eqb, ltb}
use lib.ListN.{get_or}
use borrow.Author.Tests.{eq-eqb, ne_eqb, eqb-true, lt-ltb, not-false}
use Rattle.model.specs.Places.{first}
use Rattle.model.specs.Cycle.{walks, cyclic}
use Rattle.model.proofs.Bools.{clash, le-or-lt, not-true, not-is-true, both, left-of, right_of}
use Rattle.model.proofs.Places.{first-at, first-here, first_found, none-counted, some-counted, any_intro, any_none}
use Rattle.model.proofs.Cycles.{walks-last}
use Rattle.graph.specs.Model.{from, to, as_model}
use Rattle.graph.proofs.Edges.{edge_at, edge-place}
use Rattle.starts.specs.Starts.{comes_from, leads_to, Rows, Ordered}
use Rattle.waiting.specs.Waiting.{entering}
use Rattle.cycle.specs.Drawn.{drawn}
use Rattle.cycle.specs.Line.{free, due, untold, Line}
use Rattle.cycle.proofs.Line.{stands_at, stands-once, told_of, line_known, waits-known}

-- ---- nobody is left

module _ {l : List ℕ} {m n : ℕ} {starts : List ℕ} (R : Rows l m n starts) {w o : List ℕ} (L : Line l m n w o n n) where
  line-ordered : Ordered l m n o
  line-ordered = record {
    size = L.size;
    known = line_known R L;
    place = place;
    within = within;
    stands = stands;
    once = once;
    later = λ i h.
        let d = L.earlier i (place (leads_to l i)) h (within (leads_to l i) (R.to_known i h)) (stands (leads_to l i) (R.to_known i h)) in
        let k : d.0 < n = omega (arith, d.1, within (leads_to l i) (R.to_known i h)) in
        omega (arith, d.1, once d.0 k, ap place d.2);
  }
    where
      place : ℕ → ℕ
      place v = first (λ j. eqb v (get_or o j 0)) n

      all-due : (v : ℕ) → v < n → due n w v ≡ true
      all-due v h =
          both (ltb v n) (free w v) (lt-ltb v n h)
          (not-false (free w v) (none-counted (λ v. not (free w v)) 128 (omega (arith, L.rest)) v (omega (arith, h, R.few_vertices))))

      within : (v : ℕ) → v < n → place v < n
      within v h =
          let r = stands_at o n (due n w) L.once v (all-due v h) in
          first_found (λ j. eqb v (get_or o j 0)) n r.0 r.1 (eq-eqb v (get_or o r.0 0) (sym r.2))

      stands : (v : ℕ) → v < n → get_or o (place v) 0 ≡ v
      stands v h = sym (eqb-true v (get_or o (place v) 0) (first-here (λ j. eqb v (get_or o j 0)) n (within v h)))

      once : (j : ℕ) → j < n → place (get_or o j 0) ≡ j
      once j h =
          let v = get_or o j 0 in
          first-at (λ i. eqb v (get_or o i 0)) n j h (λ i b. ne_eqb v (get_or o i 0) (λ e. omega (arith, stands-once o n (due n w) L.once j i h (omega (arith, b, h)) e))) (eq-eqb v v refl)

module _ {l : List ℕ} {m n : ℕ} {o : List ℕ} (O : Ordered l m n o) where
  -- each edge of a walk costs a place
  walk-places : (r v : ℕ) → walks (as_model (drawn l n m)) r v ≡ true → r ≤ O.place v
  unfolding drawn from to
  walk-places zero v t = zero-le
  walk-places (suc r) v t =
      let s = walks-last (as_model (drawn l n m)) r v t in
      let e = edge-place (drawn l n m) s.0 v s.1 in
      omega (arith, O.later e.place e.within, ap O.place e.is-from, ap O.place e.is-to, walk-places r s.0 s.2)

  ordered-acyclic : cyclic (as_model (drawn l n m)) ≡ false
  unfolding cyclic as_model drawn
  ordered-acyclic = any_none (walks (as_model (drawn l n m)) n) n (λ v h. not-true (walks (as_model (drawn l n m)) n v) (λ t. omega (arith, walk-places n v t, O.within v h)))

-- ---- somebody is left

module _ {l : List ℕ} {m n : ℕ} {starts : List ℕ} (R : Rows l m n starts) {w o : List ℕ} {k : ℕ} (L : Line l m n w o k k) where
  waits-within : (v : ℕ) → free w v ≡ false → v < n
  waits-within v f = ⊎_elim (λ (h : n ≤ v). absurd (clash (waits-known R L v h) f)) (λ h. h) (le-or-lt n v)

  -- who waits, waits for one who waits
  waits-for : (v : ℕ) → free w v ≡ false → (i : ℕ) × (i < m) × (leads_to l i ≡ v) × (free w (comes_from l i) ≡ false)
  unfolding entering
  waits-for v f =
      let h = waits-within v f in
      let z = L.counts v (omega (arith, h, R.few_vertices)) in
      let i = some-counted (λ i. untold o k (comes_from l i) && eqb (leads_to l i) v) m (⊎_elim (λ c. absurd (clash (eq-eqb (get_or w v 0) 0 (omega (arith, c, z))) f)) (λ c. c) (le-or-lt _ 0)) in
      let u = comes_from l i.0 in (
        i.0,
        i.1,
        eqb-true (leads_to l i.0) v (right_of (untold o k u) (eqb (leads_to l i.0) v) i.2),
        not-true (free w u) (λ t. clash (left-of (untold o k u) (eqb (leads_to l i.0) v) i.2) (told_of o k (due n w) L.once u (both (ltb u n) (free w u) (lt-ltb u n (R.from_known i.0 i.1)) t))),
      )

  walks-left : (r v : ℕ) → free w v ≡ false → walks (as_model (drawn l n m)) r v ≡ true
  unfolding walks
  walks-left zero v f = refl
  walks-left (suc r) v f =
      let i = waits-for v f in
      let G = as_model (drawn l n m) in
      let u = comes_from l i.0 in
      rw (← i.2) (any_intro (λ u. G.edge u (leads_to l i.0) && walks G r u) G.n u (unfold as_model drawn in R.from_known i.0 i.1)
      (both (G.edge u (leads_to l i.0)) (walks G r u) (unfold drawn from to in edge_at (drawn l n m) i.0 i.1) (walks-left r u i.3)))

  left-cyclic : (k ≡ n → ⊥) → cyclic (as_model (drawn l n m)) ≡ true
  unfolding cyclic as_model drawn
  left-cyclic e =
      let v = some-counted (λ v. not (free w v)) 128 (omega (arith, L.rest, e)) in
      let f = not-is-true (free w v.0) v.2 in
      any_intro (walks (as_model (drawn l n m)) n) n v.0 (waits-within v.0 f) (walks-left n v.0 f)

  -- ---- either

  pub left-tells : (not (eqb k n) ≡ cyclic (as_model (drawn l n m))) × (not (eqb k n) ≡ false → Ordered l m n o)
  left-tells = go (ℕ_discrete k n)
    where
      go : Dec (k ≡ n) → (not (eqb k n) ≡ cyclic (as_model (drawn l n m))) × (not (eqb k n) ≡ false → Ordered l m n o)
      go (yes e) =
          let O = line-ordered R (subst (λ (x : ℕ). Line l m n w o x x) e L) in
          (ap not (eq-eqb k n e) ∙ sym (ordered-acyclic O), λ q. O)
      go (no e) = (ap not (ne_eqb k n e) ∙ sym (left-cyclic e), λ q. absurd (clash (ap not (ne_eqb k n e)) q))
