-- Cycles. A graph has a closed walk or a rank that every edge raises, never both; and `cyclic` tells which.
--
-- The rank is the number of ancestors. That u is an ancestor of v can be told by Warshall's recursion: `reach k u v` says
-- that a walk from u to v has inner vertices below k alone. It is transitive by induction on k, with no counting of pigeons.
use mathlib.Core.Path.{◌≡◌, refl}
use mathlib.Core.Logic.{◌⊎◌, inl, inr}
use mathlib.Core.Bool.{true, false, ◌&&◌}
use Prim.Native.Nat.{ℕ, zero, suc, ◌+◌, ◌-◌, ◌≤◌, ◌<◌, zero-le}
use native.Mathlib.Omega.{arith}
use native.Mathlib.Decide.{ℕ_discrete}
use Rattle.model.specs.Places.{count}
use Rattle.model.specs.Graph.{Graph, Edge, WellFormed}
use Rattle.model.specs.Cycle.{Walk, one, step, reach, ancestor, Acyclic, Ranked, walks, cyclic}
use Rattle.model.proofs.Bools.{clash, cases, not-true, both, left-of, right_of, or_left, or_right, or_cases}
use Rattle.model.proofs.Places.{all-or-some, count_less, count-all, any_intro, any_elim}

pub walk_join : {G : Graph} {u v w : ℕ} → Walk G u v → Walk G v w → Walk G u w
walk_join (one e) y = step e y
walk_join (step e x) y = step e (walk_join x y)

pub walk_from : {G : Graph} {u v : ℕ} → WellFormed G → Walk G u v → u < G.n
walk_from {u = u} W (one {v = v} e) = W.from u v e
walk_from {u = u} W (step {v = v} e x) = W.from u v e

-- the last edge of a walk
pub walk_last : {G : Graph} {u v : ℕ} → Walk G u v → (p : ℕ) × Edge G p v × ((u ≡ p) ⊎ Walk G u p)
walk_last {u = u} (one e) = (u, e, inl refl)
walk_last {G} {u} {v} (step {v = w} e x) = let r = walk_last x in (r.0, r.1, inr (go r.0 r.2))
  where
    go : (p : ℕ) → (w ≡ p) ⊎ Walk G w p → Walk G u p
    go p (inl q) = let y : Walk G u w = one e in rw q at y
    go p (inr y) = step e y

-- a graph that has all the edges of another has all its walks
pub walk_within : {G H : Graph} → ((u v : ℕ) → Edge G u v → Edge H u v) → {u v : ℕ} → Walk G u v → Walk H u v
walk_within h {u} {v} (one e) = one (h u v e)
walk_within h {u} (step {v = v} e x) = step (h u v e) (walk_within h x)

-- ---- who is an ancestor of whom

module _ (G : Graph) where
  reach-old : (k u v : ℕ) → reach G k u v ≡ true → reach G (suc k) u v ≡ true
  unfolding reach
  reach-old k u v t = or_left (reach G k u v) (reach G k u k && reach G k k v) t

  reach-via : (k u v : ℕ) → reach G k u k ≡ true → reach G k k v ≡ true → reach G (suc k) u v ≡ true
  unfolding reach
  reach-via k u v s t = or_right (reach G k u v) (reach G k u k && reach G k k v) (both (reach G k u k) (reach G k k v) s t)

  reach-cases : (k u v : ℕ) → reach G (suc k) u v ≡ true → (reach G k u v ≡ true) ⊎ ((reach G k u k ≡ true) × (reach G k k v ≡ true))
  unfolding reach
  reach-cases k u v t = go (or_cases (reach G k u v) (reach G k u k && reach G k k v) t)
    where
      go : (reach G k u v ≡ true) ⊎ (reach G k u k && reach G k k v ≡ true) → (reach G k u v ≡ true) ⊎ ((reach G k u k ≡ true) × (reach G k k v ≡ true))
      go (inl x) = inl x
      go (inr x) = inr (left-of (reach G k u k) (reach G k k v) x, right_of (reach G k u k) (reach G k k v) x)

  reach-edge : (k u v : ℕ) → Edge G u v → reach G k u v ≡ true
  unfolding reach
  reach-edge zero u v e = e
  reach-edge (suc k) u v e = reach-old k u v (reach-edge k u v e)

  reach-walk : (k u v : ℕ) → reach G k u v ≡ true → Walk G u v
  unfolding reach
  reach-walk zero u v t = one t
  reach-walk (suc k) u v t = go (reach-cases k u v t) (reach-walk k u v) (reach-walk k u k) (reach-walk k k v)
    where
      go : (reach G k u v ≡ true) ⊎ ((reach G k u k ≡ true) × (reach G k k v ≡ true)) → (reach G k u v ≡ true → Walk G u v)
          → (reach G k u k ≡ true → Walk G u k) → (reach G k k v ≡ true → Walk G k v) → Walk G u v
      go (inl x) f g h = f x
      go (inr x) f g h = walk_join (g x.0) (h x.1)

  -- to k and from k
  reach-in : (k u : ℕ) → reach G (suc k) u k ≡ true → reach G k u k ≡ true
  reach-in k u t = go (reach-cases k u k t)
    where
      go : (reach G k u k ≡ true) ⊎ ((reach G k u k ≡ true) × (reach G k k k ≡ true)) → reach G k u k ≡ true
      go (inl x) = x
      go (inr x) = x.0

  reach-out : (k v : ℕ) → reach G (suc k) k v ≡ true → reach G k k v ≡ true
  reach-out k v t = go (reach-cases k k v t)
    where
      go : (reach G k k v ≡ true) ⊎ ((reach G k k k ≡ true) × (reach G k k v ≡ true)) → reach G k k v ≡ true
      go (inl x) = x
      go (inr x) = x.1

  reach-trans : (k u v w : ℕ) → v < k → reach G k u v ≡ true → reach G k v w ≡ true → reach G k u w ≡ true
  reach-trans zero u v w l s t = absurd (omega arith)
  reach-trans (suc k) u v w l s t = go (ℕ_discrete v k) (λ a b m. reach-trans k a v b m) (reach-cases k u v s) (reach-cases k v w t)
    where
      go : Dec (v ≡ k) → ((a b : ℕ) → v < k → reach G k a v ≡ true → reach G k v b ≡ true → reach G k a b ≡ true)
          → (reach G k u v ≡ true) ⊎ ((reach G k u k ≡ true) × (reach G k k v ≡ true))
          → (reach G k v w ≡ true) ⊎ ((reach G k v k ≡ true) × (reach G k k w ≡ true)) → reach G (suc k) u w ≡ true
      go (yes e) ih x y = reach-via k u w (reach-in k u (rw e at s)) (reach-out k w (rw e at t))
      go (no e) ih (inl x) (inl y) = reach-old k u w (ih u w (omega arith) x y)
      go (no e) ih (inl x) (inr y) = reach-via k u w (ih u k (omega arith) x y.0) y.1
      go (no e) ih (inr x) (inl y) = reach-via k u w x.0 (ih k w (omega arith) x.1 y)
      go (no e) ih (inr x) (inr y) = reach-via k u w x.0 y.1

-- THEOREM. The test holds exactly where u is an ancestor of v.
pub ancestor_walk : (G : Graph) (u v : ℕ) → ancestor G u v ≡ true → Walk G u v
unfolding ancestor
ancestor_walk G u v t = reach-walk G G.n u v t

pub walk_ancestor : {G : Graph} {u v : ℕ} → WellFormed G → Walk G u v → ancestor G u v ≡ true
unfolding ancestor
walk_ancestor {G = G} {u = u} {v = v} W (one e) = reach-edge G G.n u v e
walk_ancestor {G = G} {u = u} {v = w} W (step {v = v} e x) = reach-trans G G.n u v w (W.to u v e) (reach-edge G G.n u v e) (walk_ancestor W x)

-- ---- ranks

-- THEOREM. A graph with no closed walk has a rank that every edge raises: the number of ancestors.
unfoldable pub ranked : {G : Graph} → WellFormed G → Acyclic G → Ranked G
ranked {G} W A = record { rank = λ v. count (λ x. ancestor G x v) G.n; up = rises }
  where
    rises : (u v : ℕ) → Edge G u v → count (λ x. ancestor G x u) G.n < count (λ x. ancestor G x v) G.n
    rises u v e = count_less (λ x. ancestor G x u) (λ x. ancestor G x v) u G.n (W.from u v e)
        (λ x l t. walk_ancestor W (walk_join (ancestor_walk G x u t) (one e)))
        (walk_ancestor W (one e))
        (not-true (ancestor G u u) (λ t. A u (ancestor_walk G u u t)))

-- and it is below the number of vertices
pub rank_below : {G : Graph} (W : WellFormed G) (A : Acyclic G) (v : ℕ) → v < G.n → (ranked W A).rank v < G.n
unfolding ranked
rank_below {G} W A v l =
    omega (
      arith,
      count_less (λ x. ancestor G x v) (λ x. true) v G.n l (λ x m t. refl) refl (not-true (ancestor G v v) (λ t. A v (ancestor_walk G v v t))),
      count-all (λ x. true) G.n (λ i m. refl),
    )

pub walk_rises : {G : Graph} {u v : ℕ} (R : Ranked G) → Walk G u v → R.rank u < R.rank v
walk_rises {u = u} {v = v} R (one e) = R.up u v e
walk_rises {u = u} R (step {v = v} e x) = omega (arith, R.up u v e, walk_rises R x)

-- THEOREM. A graph with such a rank has no closed walk.
pub acyclic : {G : Graph} → Ranked G → Acyclic G
acyclic R v x = omega (arith, walk_rises R x)

-- THEOREM. Every well-formed graph is acyclic or has a closed walk.
pub cycle-or : {G : Graph} → WellFormed G → Acyclic G ⊎ ((v : ℕ) × Walk G v v)
cycle-or {G} W = go (all-or-some (λ v. ancestor G v v ≡ false) (λ v. ancestor G v v ≡ true) G.n (λ v l. turn v (cases (ancestor G v v))))
  where
    turn : (v : ℕ) → (ancestor G v v ≡ true) ⊎ (ancestor G v v ≡ false) → (ancestor G v v ≡ false) ⊎ (ancestor G v v ≡ true)
    turn v (inl a) = inr a
    turn v (inr b) = inl b

    go : ((v : ℕ) → v < G.n → ancestor G v v ≡ false) ⊎ ((v : ℕ) × (v < G.n) × (ancestor G v v ≡ true)) → Acyclic G ⊎ ((v : ℕ) × Walk G v v)
    go (inl a) = inl (λ v x. clash (walk_ancestor W x) (a v (walk_from W x)))
    go (inr r) = inr (r.0, ancestor_walk G r.0 r.0 r.2)

-- ---- the test

-- a walk of r + 1 edges that ends at v comes over a predecessor of v; and back
pub walks-last : (G : Graph) (r v : ℕ) → walks G (suc r) v ≡ true → (u : ℕ) × Edge G u v × (walks G r u ≡ true)
unfolding walks
walks-last G r v t =
    let s = any_elim (λ u. G.edge u v && walks G r u) G.n t in
    (s.0, left-of (G.edge s.0 v) _ s.2, right_of (G.edge s.0 v) _ s.2)

pub walks_next : {G : Graph} → WellFormed G → (r u v : ℕ) → Edge G u v → walks G r u ≡ true → walks G (suc r) v ≡ true
unfolding walks
walks_next {G} W r u v e t =
    any_intro (λ u. G.edge u v && walks G r u) G.n u (W.from u v e) (both (G.edge u v) (walks G r u) e t)

-- each edge of a walk costs a rank
walks-rank : {G : Graph} (R : Ranked G) (r v : ℕ) → walks G r v ≡ true → r ≤ R.rank v
walks-rank R zero v t = zero-le
walks-rank {G} R (suc r) v t = let s = walks-last G r v t in omega (arith, R.up s.0 v s.1, walks-rank R r s.0 s.2)

-- a walk from u to v carries a walk that ends at u on to v, one edge longer at least
carried : {G : Graph} {u v : ℕ} → WellFormed G → Walk G u v → (r : ℕ) → walks G r u ≡ true → (m : ℕ) × (r < m) × (walks G m v ≡ true)
carried {u = u} {v = v} W (one e) r t = (suc r, omega arith, walks_next W r u v e t)
carried {u = u} W (step {v = v} e x) r t = let s = carried W x (suc r) (walks_next W r u v e t) in (s.0, omega (arith, s.1), s.2)

-- a walk that ends somewhere has every shorter walk's end on it
shorter : (G : Graph) (m r v : ℕ) → walks G (m + r) v ≡ true → (u : ℕ) × (walks G r u ≡ true)
shorter G zero r v t = (v, let e : 0 + r ≡ r = omega arith in rw e at t)
shorter G (suc m) r v t =
    let e : suc m + r ≡ suc (m + r) = omega arith in
    let s = walks-last G (m + r) v (rw e at t) in
    shorter G m r s.0 s.2

-- around a closed walk, walks of any length
around : {G : Graph} {v : ℕ} → WellFormed G → Walk G v v → (k : ℕ) → (m : ℕ) × (k ≤ m) × (walks G m v ≡ true)
unfolding walks
around W x zero = (0, zero-le, refl)
around W x (suc k) =
    let s = around W x k in
    let t = carried W x s.0 s.2 in
    (t.0, omega (arith, s.1, t.1), t.2)

-- so walks of every number of edges
any-many : {G : Graph} {v : ℕ} → WellFormed G → Walk G v v → (r : ℕ) → (u : ℕ) × (u < G.n) × (walks G r u ≡ true)
any-many {G} {v} W x r =
    let s = around W x (suc r) in
    let e : s.0 ≡ (s.0 - suc r) + suc r = omega (arith, s.1) in
    let t = shorter G (s.0 - suc r) (suc r) v (rw e at s.2) in
    let p = walks-last G r t.0 t.1 in
    (p.0, W.from p.0 t.0 p.1, p.2)

-- and a walk of as many edges as there are vertices has more ranks to climb than there are
too_many : {G : Graph} → WellFormed G → (r v : ℕ) → v < G.n → walks G r v ≡ true → G.n ≤ r → (u : ℕ) × Walk G u u
too_many {G} W r v l t m = go (cycle-or W)
  where
    go : Acyclic G ⊎ ((u : ℕ) × Walk G u u) → (u : ℕ) × Walk G u u
    go (inr x) = x
    go (inl A) = absurd (omega (arith, walks-rank (ranked W A) r v t, rank_below W A v l))

-- THEOREM. The test says that there is a cycle exactly where there is a closed walk.
pub walk_cyclic : {G : Graph} → WellFormed G → cyclic G ≡ true → (v : ℕ) × Walk G v v
unfolding cyclic
walk_cyclic {G} W t = let s = any_elim _ G.n t in too_many W _ s.0 s.1 s.2 (omega arith)

pub cyclic_walk : {G : Graph} → WellFormed G → (v : ℕ) → Walk G v v → cyclic G ≡ true
unfolding cyclic
cyclic_walk {G} W v x = let s = any-many W x G.n in any_intro _ G.n s.0 s.1 s.2

pub acyclic-test : {G : Graph} → WellFormed G → cyclic G ≡ false → Acyclic G
acyclic-test W f v x = clash (cyclic_walk W v x) f
