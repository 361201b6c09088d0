-- Finished and ready, over what is left of each vertex.
use mathlib.Core.Path.{◌≡◌}
use mathlib.Core.List.{List, ◌∷◌}
use mathlib.Core.Logic.{◌⊎◌, inl, inr}
use mathlib.Core.Bool.{true, false}
use Prim.Native.Nat.{ℕ, zero, suc, ◌+◌, ◌≤◌, ◌<◌}
use native.Mathlib.Omega.{arith}
use native.Mathlib.Decide.{ℕ_discrete}
use Rattle.model.specs.Graph.{Graph, Edge, WellFormed}
use Rattle.model.specs.Cycle.{Walk, one, step, Ranked}
use Rattle.model.specs.Path.{ToSink, link}
use Rattle.model.specs.Schedule.{Schedule, left, Finished, done, Ready, FinishOf, Finish}
use Rattle.model.proofs.Bools.{cases, clash, bit-one, le-or-lt}
use Rattle.model.proofs.Places.{all-or-some}
use Rattle.model.proofs.Paths.{Raised, same, raised_tail}

pub fin_left : {G : Graph} {c : ℕ → ℕ} {v : ℕ} → Finished G c v → c v ≡ 0
fin_left (done h f) = h

pub fin_before : {G : Graph} {c : ℕ → ℕ} {v : ℕ} → Finished G c v → (u : ℕ) → Edge G u v → Finished G c u
fin_before (done h f) = f

-- what is finished stays finished where less is left
pub fin_less : {G : Graph} {c d : ℕ → ℕ} {v : ℕ} → ((u : ℕ) → d u ≤ c u) → Finished G c v → Finished G d v
fin_less {v = v} l (done h f) = done {v = v} (omega (arith, l v)) (λ u e. fin_less l (f u e))

-- finished: nothing is left of it, nor of any ancestor
pub fin_ancestor : {G : Graph} {c : ℕ → ℕ} {u v : ℕ} → Walk G u v → Finished G c v → c u ≡ 0
fin_ancestor {u = u} (one e) f = fin_left (fin_before f u e)
fin_ancestor {u = u} (step e x) f = fin_left (fin_before (whole x f) u e)
  where
    whole : {G : Graph} {c : ℕ → ℕ} {u v : ℕ} → Walk G u v → Finished G c v → Finished G c u
    whole {u = u} (one e) f = fin_before f u e
    whole {u = u} (step e x) f = fin_before (whole x f) u e

-- a vertex that has ticks left and no unfinished predecessor is ready, and a ready vertex has ticks left
pub ready-left : {G : Graph} {c : ℕ → ℕ} {v : ℕ} → Ready G c v → 0 < c v
ready-left {c = c} {v = v} r = go (ℕ_discrete (c v) 0)
  where
    go : Dec (c v ≡ 0) → 0 < c v
    go (yes z) = absurd (r.unfinished (done z r.before))
    go (no z) = omega arith

pub left-ready : {G : Graph} {c : ℕ → ℕ} {v : ℕ} → 0 < c v → ((u : ℕ) → Edge G u v → Finished G c u) → Ready G c v
left-ready l b = record { unfinished = λ f. omega (arith, fin_left f); before = b }

-- ---- in a schedule

pub left_step : (S : Schedule) (t v : ℕ) → left S (suc t) v ≤ left S t v
unfolding left
left_step S t v = omega arith

pub fin_step : {G : Graph} (S : Schedule) (t : ℕ) {v : ℕ} → Finished G (left S t) v → Finished G (left S (suc t)) v
fin_step S t x = fin_less (left_step S t) x

-- what is left never grows, so what is finished stays finished
pub left-later : (S : Schedule) (a t v : ℕ) → a ≤ t → left S t v ≤ left S a v
left-later S a zero v h = let e : a ≡ 0 = omega arith in rw e (omega arith)
left-later S a (suc t) v h = go (ℕ_discrete a (suc t)) (λ m. left-later S a t v m)
  where
    go : Dec (a ≡ suc t) → (a ≤ t → left S t v ≤ left S a v) → left S (suc t) v ≤ left S a v
    go (yes e) ih = rw e (omega arith)
    go (no e) ih = omega (arith, left_step S t v, ih (omega arith))

pub fin_later : {G : Graph} (S : Schedule) (a t : ℕ) {v : ℕ} → a ≤ t → Finished G (left S a) v → Finished G (left S t) v
fin_later S a t h x = fin_less (λ u. left-later S a t u h) x

-- what runs has a tick less to go
pub left-run : {G : Graph} (S : Schedule) (t : ℕ) {v : ℕ} → Ready G (left S t) v → S.runs t v ≡ true → left S (suc t) v + 1 ≤ left S t v
unfolding left
left-run S t {v = v} r x = omega (arith, ready-left r, bit-one (S.runs t v) x)

-- THEOREM. A schedule has one finish at most, and one finish of each vertex.
pub finish_unique : {G : Graph} {S : Schedule} (F F' : ℕ) → Finish G S F → Finish G S F' → F ≡ F'
finish_unique F F' h h' = go (le-or-lt F F') (le-or-lt F' F)
  where
    go : (F ≤ F') ⊎ (F' < F) → (F' ≤ F) ⊎ (F < F') → F ≡ F'
    go (inr l) x = absurd (h.first F' l h'.all)
    go (inl l) (inr m) = absurd (h'.first F m h.all)
    go (inl l) (inl m) = omega arith

pub finish-of_unique : {G : Graph} {S : Schedule} {v : ℕ} (F F' : ℕ) → FinishOf G S v F → FinishOf G S v F' → F ≡ F'
finish-of_unique F F' h h' = go (le-or-lt F F') (le-or-lt F' F)
  where
    go : (F ≤ F') ⊎ (F' < F) → (F' ≤ F) ⊎ (F < F') → F ≡ F'
    go (inr l) x = absurd (h.first F' l h'.there)
    go (inl l) (inr m) = absurd (h'.first F m h.there)
    go (inl l) (inl m) = omega arith

-- ---- whether a vertex is finished can be told, and an unfinished one has a ready one above it

module _ {G : Graph} (W : WellFormed G) (c : ℕ → ℕ) where
  -- all predecessors are finished, or one is not
  pub before-or : (v : ℕ) → ((u : ℕ) → Edge G u v → Dec (Finished G c u))
      → ((u : ℕ) → Edge G u v → Finished G c u) ⊎ ((u : ℕ) × Edge G u v × (Finished G c u → ⊥))
  before-or v d =
      go (all-or-some (λ u. Edge G u v → Finished G c u) (λ u. Edge G u v × (Finished G c u → ⊥)) G.n (λ u l. turn u (cases (G.edge u v))))
    where
      with-edge : (u : ℕ) → Edge G u v → Dec (Finished G c u) → (Edge G u v → Finished G c u) ⊎ (Edge G u v × (Finished G c u → ⊥))
      with-edge u e (yes f) = inl (λ x. f)
      with-edge u e (no f) = inr (e, f)

      turn : (u : ℕ) → (G.edge u v ≡ true) ⊎ (G.edge u v ≡ false) → (Edge G u v → Finished G c u) ⊎ (Edge G u v × (Finished G c u → ⊥))
      turn u (inl e) = with-edge u e (d u e)
      turn u (inr x) = inl (λ e. absurd (clash e x))

      go : ((u : ℕ) → u < G.n → Edge G u v → Finished G c u) ⊎ ((u : ℕ) × (u < G.n) × (Edge G u v × (Finished G c u → ⊥)))
          → ((u : ℕ) → Edge G u v → Finished G c u) ⊎ ((u : ℕ) × Edge G u v × (Finished G c u → ⊥))
      go (inr r) = inr (r.0, r.2.0, r.2.1)
      go (inl a) = inl (λ u e. a u (W.from u v e) e)

  fin-by : (v : ℕ) → ((u : ℕ) → Edge G u v → Finished G c u) ⊎ ((u : ℕ) × Edge G u v × (Finished G c u → ⊥)) → Dec (c v ≡ 0)
      → Dec (Finished G c v)
  fin-by v (inr r) d = no (λ f. r.2 (fin_before f r.0 r.1))
  fin-by v (inl a) (yes z) = yes (done z a)
  fin-by v (inl a) (no z) = no (λ f. z (fin_left f))

  module _ (R : Ranked G) where
    fin-dec : (k v : ℕ) → R.rank v < k → Dec (Finished G c v)
    fin-dec zero v l = absurd (omega arith)
    fin-dec (suc k) v l = fin-by v (before-or v (λ u e. fin-dec k u (omega (arith, R.up u v e)))) (ℕ_discrete (c v) 0)

    pub finished? : (v : ℕ) → Dec (Finished G c v)
    finished? v = fin-dec (suc (R.rank v)) v (omega arith)

    -- all vertices are finished, or one is not
    pub all-finished-or : ((v : ℕ) → v < G.n → Finished G c v) ⊎ ((v : ℕ) × (v < G.n) × (Finished G c v → ⊥))
    all-finished-or = all-or-some (Finished G c) (λ v. Finished G c v → ⊥) G.n (λ v l. turn v (finished? v))
      where
        turn : (v : ℕ) → Dec (Finished G c v) → Finished G c v ⊎ (Finished G c v → ⊥)
        turn v (yes f) = inl f
        turn v (no f) = inr f

    climb : (k v : ℕ) (p : List ℕ) → R.rank v < k → ToSink G (v ∷ p) → (Finished G c v → ⊥) → Raised G (Ready G c) (v ∷ p)
    climb zero v p l q x = absurd (omega arith)
    climb (suc k) v p l q x = go (before-or v (λ u e. finished? u)) (λ u e. climb k u (v ∷ p) (omega (arith, R.up u v e)) (link e q))
      where
        go : ((u : ℕ) → Edge G u v → Finished G c u) ⊎ ((u : ℕ) × Edge G u v × (Finished G c u → ⊥))
            → ((u : ℕ) → Edge G u v → (Finished G c u → ⊥) → Raised G (Ready G c) (u ∷ (v ∷ p))) → Raised G (Ready G c) (v ∷ p)
        go (inl a) ih = record { top = v; rest = p; has = record { unfinished = x; before = a }; path = q; over = same }
        go (inr r) ih = raised_tail (ih r.0 r.1 r.2)

    -- a path from an unfinished vertex extends backwards to one from a ready vertex
    pub to-ready : (v : ℕ) (p : List ℕ) → ToSink G (v ∷ p) → (Finished G c v → ⊥) → Raised G (Ready G c) (v ∷ p)
    to-ready v p q x = climb (suc (R.rank v)) v p (omega arith) q x

    -- nothing left of it, nor of any ancestor: finished
    pub ancestor_fin : (v : ℕ) → c v ≡ 0 → ((u : ℕ) → Walk G u v → c u ≡ 0) → Finished G c v
    ancestor_fin v z h = up (suc (R.rank v)) v (omega arith) z h
      where
        up : (k v : ℕ) → R.rank v < k → c v ≡ 0 → ((u : ℕ) → Walk G u v → c u ≡ 0) → Finished G c v
        up zero v l z h = absurd (omega arith)
        up (suc k) v l z h = done z (λ u e. up k u (omega (arith, R.up u v e)) (h u (one e)) (λ w x. h w (on x e)))
          where
            on : {w u : ℕ} → Walk G w u → Edge G u v → Walk G w v
            on (one e) f = step e (one f)
            on (step e x) f = step e (on x f)
