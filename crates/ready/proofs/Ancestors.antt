-- A vertex stands behind those from which a walk leads to it: what the test `is_behind` says where there is no cycle.
use mathlib.Core.Path.{◌≡◌, refl}
use mathlib.Core.Logic.{◌⊎◌, inl, inr}
use mathlib.Core.Bool.{Bool, true, ◌&&◌, ◌||◌}
use Prim.Native.Nat.{ℕ, zero, suc, ◌<◌}
use native.Mathlib.Omega.{arith}
use Rattle.model.specs.Places.{any}
use Rattle.model.specs.Graph.{Graph, Edge, WellFormed}
use Rattle.model.specs.Cycle.{Walk, one, step, Acyclic, Ranked}
use Rattle.model.proofs.Bools.{clash, both, left-of, right_of, or_left, or_right, or_cases}
use Rattle.model.proofs.Places.{any_intro, any_elim}
use Rattle.model.proofs.Cycles.{walk_join, ranked, rank_below}
use Rattle.ready.specs.Ready.{behind_within, is_behind}

-- the last edge of a walk
pub last-edge : {G : Graph} {u v : ℕ} → Walk G u v → (w : ℕ) × Edge G w v × ((u ≡ w) ⊎ Walk G u w)
last-edge {u = u} (one e) = (u, e, inl refl)
last-edge {G = G} {u = u} {v = v} (step {v = w} e x) = go (last-edge x)
  where
    go : (z : ℕ) × Edge G z v × ((w ≡ z) ⊎ Walk G w z) → (z : ℕ) × Edge G z v × ((u ≡ z) ⊎ Walk G u z)
    go (z, f, inl q) = (z, f, inr (one (rw q at e)))
    go (z, f, inr y) = (z, f, inr (step e y))

module _ {G : Graph} (p : ℕ → Bool) where
  pub within_walk : (r v : ℕ) → behind_within G p r v ≡ true → (u : ℕ) × (p u ≡ true) × Walk G u v
  unfolding behind_within
  within_walk zero v t = absurd (clash t refl)
  within_walk (suc r) v t = go (any_elim (λ u. G.edge u v && (p u || behind_within G p r u)) G.n t) (within_walk r)
    where
      go : (u : ℕ) × (u < G.n) × (G.edge u v && (p u || behind_within G p r u) ≡ true)
          → ((v : ℕ) → behind_within G p r v ≡ true → (u : ℕ) × (p u ≡ true) × Walk G u v) → (u : ℕ) × (p u ≡ true) × Walk G u v
      go (u, l, t) ih = turn (or_cases (p u) (behind_within G p r u) (right_of (G.edge u v) (p u || behind_within G p r u) t))
        where
          e : Edge G u v
          e = left-of (G.edge u v) (p u || behind_within G p r u) t

          turn : (p u ≡ true) ⊎ (behind_within G p r u ≡ true) → (u : ℕ) × (p u ≡ true) × Walk G u v
          turn (inl h) = (u, h, one e)
          turn (inr h) = let w = ih u h in (w.0, w.1, walk_join w.2 (one e))

  walk_within : WellFormed G → (R : Ranked G) → (r v : ℕ) → R.rank v < r → (u : ℕ) → p u ≡ true → Walk G u v → behind_within G p r v ≡ true
  unfolding behind_within
  walk_within W R zero v l u h x = absurd (omega arith)
  walk_within W R (suc r) v l u h x = go (last-edge x) (λ w e y. walk_within W R r w (omega (arith, R.up w v e)) u h y)
    where
      go : (w : ℕ) × Edge G w v × ((u ≡ w) ⊎ Walk G u w) → ((w : ℕ) → Edge G w v → Walk G u w → behind_within G p r w ≡ true)
          → any (λ u. G.edge u v && (p u || behind_within G p r u)) G.n ≡ true
      go (w, e, y) ih =
          any_intro (λ u. G.edge u v && (p u || behind_within G p r u)) G.n w (W.from w v e)
          (both (G.edge w v) (p w || behind_within G p r w) e (turn y))
        where
          turn : (u ≡ w) ⊎ Walk G u w → p w || behind_within G p r w ≡ true
          turn (inl q) = or_left (p w) (behind_within G p r w) (rw (← q) h)
          turn (inr y) = or_right (p w) (behind_within G p r w) (ih w e y)

  pub behind_walk : (v : ℕ) → is_behind G p v ≡ true → (u : ℕ) × (p u ≡ true) × Walk G u v
  unfolding is_behind
  behind_walk v t = within_walk G.n v t

  module _ (W : WellFormed G) (A : Acyclic G) where
    pub walk_behind : (u v : ℕ) → v < G.n → p u ≡ true → Walk G u v → is_behind G p v ≡ true
    unfolding is_behind
    walk_behind u v l h x = walk_within W (ranked W A) G.n v (rank_below W A v l) u h x

    pub edge-behind : (u v : ℕ) → Edge G u v → p u || is_behind G p u ≡ true → is_behind G p v ≡ true
    edge-behind u v e t = go (or_cases (p u) (is_behind G p u) t)
      where
        go : (p u ≡ true) ⊎ (is_behind G p u ≡ true) → is_behind G p v ≡ true
        go (inl h) = walk_behind u v (W.to u v e) h (one e)
        go (inr h) = let w = behind_walk u h in walk_behind w.0 v (W.to u v e) w.1 (walk_join w.2 (one e))
