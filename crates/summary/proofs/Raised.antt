-- What the edges of the vertices before a place have raised, along the order: the largest of a vertex's own and of what its predecessors there give.
use mathlib.Core.Path.{◌≡◌, sym, ap, ◌∙◌}
use mathlib.Core.Bool.{true, false}
use mathlib.Core.List.{List}
use mathlib.Core.Logic.{◌⊎◌, inl, inr}
use Prim.Native.Nat.{ℕ, ◌+◌, ◌≤◌, ◌<◌, max}
use native.Mathlib.Omega.{arith}
use native.Mathlib.Decide.{ℕ_discrete}
use lib.ListN.{get_or}
use Rattle.model.specs.Graph.{Edge}
use Rattle.model.proofs.Bools.{clash, cases, le-or-lt}
use Rattle.graph.specs.Model.{as_model}
use Rattle.graph.specs.declared.Graph.{Graph}
use Rattle.paths.specs.Ahead.{Weighed}
use Rattle.summary.specs.Row.{many, goes_to_next, Told}
use Rattle.summary.proofs.Along.{well_formed, vertex, place, place_at, vertex-at, goes-joins, joins-goes}

module _ {g : Graph} {e st o : List ℕ} {n : ℕ} {w : List ℕ} (T : Weighed g e st o n w) where
  -- what the edges of u leave, and what they change
  module _ {b : ℕ → ℕ} {u : ℕ} (known : u < g.n) {s s' : List ℕ} (D : Told e st b u (many st u) s s') where
    pub told-apart : (v : ℕ) → (Edge (as_model g) u v → ⊥) → get_or s' v 0 ≡ get_or s v 0
    told-apart v x = go (cases (goes_to_next e st u (many st u) v))
      where
        go : (goes_to_next e st u (many st u) v ≡ true) ⊎ (goes_to_next e st u (many st u) v ≡ false) → get_or s' v 0 ≡ get_or s v 0
        go (inl y) = absurd (x (goes-joins T u v known y))
        go (inr y) = rw y at (D.at v)

    pub told_raised : (v : ℕ) → Edge (as_model g) u v → get_or s' v 0 ≡ max (get_or s v 0) (b v)
    told_raised v d = rw (joins-goes T u v d) at (D.at v)

  -- what stands for v in s: its own, b v, or what one of its predecessors before place j gives, a u v, and no less than any of these
  pub record Raised (a : ℕ → ℕ → ℕ) (b : ℕ → ℕ) (s : List ℕ) (j v : ℕ) : Type 0 where
    pub own : b v ≤ get_or s v 0
    pub most : (u : ℕ) → Edge (as_model g) u v → place T u < j → a u v ≤ get_or s v 0
    pub is : (get_or s v 0 ≡ b v) ⊎ ((u : ℕ) × Edge (as_model g) u v × (place T u < j) × (get_or s v 0 ≡ a u v))

  module _ (a : ℕ → ℕ → ℕ) (b : ℕ → ℕ) where
    pub raised_none : (s : List ℕ) (v : ℕ) → get_or s v 0 ≡ b v → Raised a b s 0 v
    raised_none s v q = record { own = omega arith; most = λ u d k. absurd (omega arith); is = inl q }

    -- only what is given before place j matters, and what stands for v
    pub raised_alike : (a' : ℕ → ℕ → ℕ) (s s' : List ℕ) (j v : ℕ) → get_or s v 0 ≡ get_or s' v 0 → ((u : ℕ) → place T u < j → a u v ≡ a' u v)
        → Raised a b s j v → Raised a' b s' j v
    raised_alike a' s s' j v at same R = record {
      own = omega (arith, R.own);
      most = λ u d k. omega (arith, same u k, R.most u d k);
      is = by R.is;
    }
      where
        by : (get_or s v 0 ≡ b v) ⊎ ((u : ℕ) × Edge (as_model g) u v × (place T u < j) × (get_or s v 0 ≡ a u v))
            → (get_or s' v 0 ≡ b v) ⊎ ((u : ℕ) × Edge (as_model g) u v × (place T u < j) × (get_or s' v 0 ≡ a' u v))
        by (inl q) = inl (sym at ∙ q)
        by (inr r) = inr (r.0, r.1, r.2, sym at ∙ (r.3 ∙ same r.0 r.2))

    -- the vertex at place j gives
    module _ (s s' : List ℕ) (j : ℕ) (l : j < n) (D : Told e st (a (get_or o j 0)) (get_or o j 0) (many st (get_or o j 0)) s s') (v : ℕ)
        (R : Raised a b s j v) where
      abbrev u : ℕ
      u = get_or o j 0

      abbrev known : u < g.n
      known = vertex T j l

      here : (x : ℕ) → Edge (as_model g) x v → place T x ≡ j → x ≡ u
      unfolding as_model
      here x d q = sym (vertex-at T x ((well_formed T).from x v d)) ∙ ap (λ (i : ℕ). get_or o i 0) q

      given : Edge (as_model g) u v → Raised a b s' (j + 1) v
      given d = record {
        own = omega (arith, new, R.own);
        most = λ x c k. most x c k (ℕ_discrete (place T x) j);
        is = by (le-or-lt (get_or s v 0) (a u v)) R.is;
      }
        where
          new : get_or s' v 0 ≡ max (get_or s v 0) (a u v)
          new = told_raised known D v d

          most : (x : ℕ) → Edge (as_model g) x v → place T x < j + 1 → Dec (place T x ≡ j) → a x v ≤ get_or s' v 0
          most x c k (yes q) = omega (arith, new, ap (λ (y : ℕ). a y v) (here x c q))
          most x c k (no q) = omega (arith, new, R.most x c (omega arith))

          by : (get_or s v 0 ≤ a u v) ⊎ (a u v < get_or s v 0)
              → (get_or s v 0 ≡ b v) ⊎ ((x : ℕ) × Edge (as_model g) x v × (place T x < j) × (get_or s v 0 ≡ a x v))
              → (get_or s' v 0 ≡ b v) ⊎ ((x : ℕ) × Edge (as_model g) x v × (place T x < j + 1) × (get_or s' v 0 ≡ a x v))
          by (inl h) r = let q = place_at T j l in inr (u, d, omega arith, omega (arith, new))
          by (inr h) (inl q) = inl (omega (arith, new))
          by (inr h) (inr r) = inr (r.0, r.1, omega (arith, r.2), omega (arith, new, r.3))

      kept : (Edge (as_model g) u v → ⊥) → Raised a b s' (j + 1) v
      kept x = record { own = omega (arith, same, R.own); most = λ y c k. most y c k (ℕ_discrete (place T y) j); is = by R.is }
        where
          same : get_or s' v 0 ≡ get_or s v 0
          same = told-apart known D v x

          most : (y : ℕ) → Edge (as_model g) y v → place T y < j + 1 → Dec (place T y ≡ j) → a y v ≤ get_or s' v 0
          most y c k (yes q) = absurd (x (rw (here y c q) at c))
          most y c k (no q) = omega (arith, same, R.most y c (omega arith))

          by : (get_or s v 0 ≡ b v) ⊎ ((y : ℕ) × Edge (as_model g) y v × (place T y < j) × (get_or s v 0 ≡ a y v))
              → (get_or s' v 0 ≡ b v) ⊎ ((y : ℕ) × Edge (as_model g) y v × (place T y < j + 1) × (get_or s' v 0 ≡ a y v))
          by (inl q) = inl (same ∙ q)
          by (inr r) = inr (r.0, r.1, omega (arith, r.2), same ∙ r.3)

      pub raised_more : Raised a b s' (j + 1) v
      raised_more = go (cases ((as_model g).edge u v))
        where
          go : ((as_model g).edge u v ≡ true) ⊎ ((as_model g).edge u v ≡ false) → Raised a b s' (j + 1) v
          go (inl d) = given d
          go (inr d) = kept (λ y. clash y d)
