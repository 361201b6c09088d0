-- Why one pass along the order, or back, marks all that a changed weight touches. No mark goes. Along the order a vertex has its mark when its
-- turn comes, since its predecessors stand before it; and back, since its successors stand after it.
use mathlib.Core.Path.{◌≡◌, refl, sym, ap, ◌∙◌}
use mathlib.Core.Bool.{Bool, true, false, ◌&&◌, ◌||◌, or-true, or-false, and-false}
use mathlib.Core.List.{List}
use Prim.Native.Nat.{ℕ, ◌+◌, ◌≤◌, ◌<◌}
use native.Mathlib.Omega.{arith}
use native.Mathlib.Decide.{ℕ_discrete}
use lib.ListN.{get_or, length, set, replicate, length-set, length-replicate}
use lib.Seq.{get_or-set_same, get_or-set_other}
use Rattle.model.specs.Places.{pick, any}
use Rattle.model.specs.Graph.{Edge}
use Rattle.model.proofs.Bools.{clash, not-true, or_left, or_right}
use Rattle.model.proofs.Places.{any_intro}
use Rattle.graph.specs.Model.{as_model}
use Rattle.graph.specs.declared.Graph.{Graph}
use Rattle.paths.specs.Ahead.{Weighed}
use Rattle.summary.specs.Row.{many, nth, goes_to_next}
use Rattle.summary.specs.Tables.{Ahead, Behind, Cleared, Marked}
use Rattle.summary.proofs.Along.{well_formed, few, vertex, place, place-below, place_at, vertex-at, nth_of, rises, goes-joins, joins-goes}
use Rattle.summary.proofs.Rows.{goes-here, goes_other}

module _ {g : Graph} {e st o : List ℕ} {n : ℕ} {w : List ℕ} (T : Weighed g e st o n w) (v : ℕ) where
  -- the vertex at place j
  here : (j : ℕ) → (u : ℕ) → u < g.n → place T u ≡ j → u ≡ get_or o j 0
  here j u m q = sym (vertex-at T u m) ∙ ap (λ (i : ℕ). get_or o i 0) q

  -- ---- along the order: the vertices before place j have handed their marks on

  pub record Onwards (t : List Bool) (j : ℕ) : Type 0 where
    pub size : length t ≡ 128
    pub own : get_or t v false ≡ true
    pub on : (u x : ℕ) → Edge (as_model g) u x → place T u < j → get_or t u false ≡ true → get_or t x false ≡ true

  pub onwards_none : v < 128 → Onwards (set (replicate 128 false) v true) 0
  onwards_none l =
      let z = length-replicate {A = Bool} 128 false in
      record {
        size = length-set (replicate 128 false) v true ∙ z;
        own = get_or-set_same {A = Bool} (replicate 128 false) v true false (rw z l);
        on = λ u x d k. absurd (omega arith);
      }

  pub onwards_more : (t t' : List Bool) (j : ℕ) → j < n → Onwards t j → Marked e st (get_or t (get_or o j 0) false) (get_or o j 0) (many st (get_or o j 0)) t t'
      → Onwards t' (j + 1)
  unfolding as_model
  onwards_more t t' j l M D = record { size = D.size; own = grown v M.own; on = λ a x d k. on a x d k (ℕ_discrete (place T a) j) }
    where
      u : ℕ
      u = get_or o j 0

      known : u < g.n
      known = vertex T j l

      goes : ℕ → Bool
      goes x = goes_to_next e st u (many st u) x

      grown : (x : ℕ) → get_or t x false ≡ true → get_or t' x false ≡ true
      grown x h = D.at x ∙ or_left (get_or t x false) (get_or t u false && goes x) h

      early : (x : ℕ) → place T x ≤ j → get_or t' x false ≡ get_or t x false
      early x h =
          let none : goes x ≡ false = not-true (goes x) (λ c. omega (arith, rises T u x (goes-joins T u x known c), place_at T j l)) in
          D.at x ∙ rw none (ap (λ (b : Bool). get_or t x false || b) (and-false (get_or t u false)) ∙ or-false (get_or t x false))

      on : (a x : ℕ) → Edge (as_model g) a x → place T a < j + 1 → Dec (place T a ≡ j) → get_or t' a false ≡ true → get_or t' x false ≡ true
      on a x d k (yes q) h =
          let z = here j a ((well_formed T).from a x d) q in
          let m : get_or t u false ≡ true = ap (λ (y : ℕ). get_or t y false) (sym z) ∙ sym (early a (omega arith)) ∙ h in
          D.at x ∙ or_right (get_or t x false) (get_or t u false && goes x) (rw m (joins-goes T u x (rw z at d)))
      on a x d k (no q) h = grown x (M.on a x d (omega arith) (sym (early a (omega arith)) ∙ h))

  pub onwards_done : (t : List Bool) → Onwards t n → Ahead (as_model g) v t
  unfolding as_model
  onwards_done t M = record {
    own = M.own;
    on = λ u x d q. not-true (get_or t u false) (λ h. clash (M.on u x d (place-below T u ((well_formed T).from u x d)) h) q);
  }

  -- ---- back along it: the vertices from place j on have taken their marks

  pub record Backwards (t : List Bool) (j : ℕ) : Type 0 where
    pub size : length t ≡ 128
    pub own : get_or t v false ≡ true
    pub on : (u x : ℕ) → Edge (as_model g) u x → j ≤ place T u → get_or t x false ≡ true → get_or t u false ≡ true

  pub backwards_none : v < 128 → Backwards (set (replicate 128 false) v true) n
  unfolding as_model
  backwards_none l =
      let S = onwards_none l in
      record { size = S.size; own = S.own; on = λ u x d k. absurd (omega (arith, place-below T u ((well_formed T).from u x d))) }

  pub backwards_more : (t : List Bool) (j k : ℕ) (y : Bool) → j ≡ k + 1 → j ≤ n
      → y ≡ (get_or t (get_or o k 0) false || any (λ i. get_or t (nth e st (get_or o k 0) i) false) (many st (get_or o k 0))) → Backwards t j → Backwards (set t (get_or o k 0) y) k
  unfolding as_model
  backwards_more t j k y next l is M = record {
    size = length-set t u y ∙ M.size;
    own = own (ℕ_discrete v u);
    on = λ a x d h. on a x d h (ℕ_discrete (place T a) k);
  }
    where
      u : ℕ
      u = get_or o k 0

      below : k < n
      below = omega arith

      new : get_or (set t u y) u false ≡ y
      new = get_or-set_same t u y false (omega (arith, M.size, vertex T k below, few T))

      other : (x : ℕ) → k < place T x → get_or (set t u y) x false ≡ get_or t x false
      other x h = get_or-set_other t u x y false (λ q. omega (arith, ap (place T) q, place_at T k below))

      next_of : ℕ → Bool
      next_of i = get_or t (nth e st u i) false

      own : Dec (v ≡ u) → get_or (set t u y) v false ≡ true
      own (yes q) = rw q (new ∙ is ∙ or_left (get_or t u false) (any next_of (many st u)) (ap (λ (x : ℕ). get_or t x false) (sym q) ∙ M.own))
      own (no q) = get_or-set_other t u v y false q ∙ M.own

      on : (a x : ℕ) → Edge (as_model g) a x → k ≤ place T a → Dec (place T a ≡ k) → get_or (set t u y) x false ≡ true → get_or (set t u y) a false ≡ true
      on a x d h (yes q) m =
          let z : a ≡ u = here k a ((well_formed T).from a x d) q in
          let r = nth_of T u x (rw z at d) in
          let marked : next_of r.0 ≡ true = ap (λ (i : ℕ). get_or t i false) r.2 ∙ (sym (other x (omega (arith, rises T a x d))) ∙ m) in
          rw z (new ∙ is ∙ or_right (get_or t u false) (any next_of (many st u)) (any_intro next_of (many st u) r.0 r.1 marked))
      on a x d h (no q) m = other a (omega arith) ∙ M.on a x d (omega arith) (sym (other x (omega (arith, rises T a x d))) ∙ m)

  pub backwards_done : (t : List Bool) → Backwards t 0 → Behind (as_model g) v t
  unfolding as_model
  backwards_done t M = record { own = M.own; on = λ u x d q. not-true (get_or t x false) (λ h. clash (M.on u x d (omega arith) h) q) }

-- ---- the edges of one vertex hand its mark on, one by one

module _ (e st : List ℕ) (u : ℕ) (t : List Bool) where
  pub marked_none : (m : Bool) → length t ≡ 128 → Marked e st m u 0 t t
  unfolding any
  marked_none m long = record { size = long; at = λ x. sym (ap (λ (b : Bool). get_or t x false || b) (and-false m) ∙ or-false (get_or t x false)) }

  -- no mark is handed on
  pub marked-nothing : (k : ℕ) → length t ≡ 128 → Marked e st false u k t t
  marked-nothing k long = record { size = long; at = λ x. sym (or-false (get_or t x false)) }

  pub marked_more : (t' : List Bool) (k x : ℕ) → x ≡ nth e st u k → x < 128 → Marked e st true u k t t' → Marked e st true u (k + 1) t (set t' x true)
  marked_more t' k x is few M = record { size = length-set t' x true ∙ M.size; at = λ v. go v (ℕ_discrete v x) }
    where
      go : (v : ℕ) → Dec (v ≡ x) → get_or (set t' x true) v false ≡ (get_or t v false || goes_to_next e st u (k + 1) v)
      go v (yes q) =
          let here : goes_to_next e st u (k + 1) x ≡ true = rw is (goes-here e st u k) in
          rw (q, here) (get_or-set_same t' x true false (rw M.size few) ∙ sym (or-true (get_or t x false)))
      go v (no q) = rw (goes_other e st u k v (λ z. q (z ∙ sym is))) (get_or-set_other t' x v true false q ∙ M.at v)

-- ---- the sums of marked vertices become 0

module _ (t : List Bool) (s : List ℕ) where
  pub cleared-none : length s ≡ 128 → Cleared t 0 s s
  cleared-none long = record { size = long; at = λ v l. absurd (omega arith); past = λ v l. refl }

  pub cleared_more : (s' : List ℕ) (u y : ℕ) → u < 128 → y ≡ pick (get_or t u false) 0 (get_or s' u 0) → Cleared t u s s'
      → Cleared t (u + 1) s (set s' u y)
  cleared_more s' u y few is C = record {
    size = length-set s' u y ∙ C.size;
    at = λ v l. at v l (ℕ_discrete v u);
    past = λ v l. get_or-set_other s' u v y 0 (λ q. omega arith) ∙ C.past v (omega arith);
  }
    where
      at : (v : ℕ) → v < u + 1 → Dec (v ≡ u) → get_or (set s' u y) v 0 ≡ pick (get_or t v false) 0 (get_or s v 0)
      at v l (yes q) =
          rw q (get_or-set_same s' u y 0 (rw C.size few) ∙ (is ∙ ap (λ (x : ℕ). pick (get_or t u false) 0 x) (C.past u (omega arith))))
      at v l (no q) = get_or-set_other s' u v y 0 q ∙ C.at v (omega arith)
