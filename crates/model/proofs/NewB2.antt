-- The potential of NEW-B-2.
--
-- A path's value, where c v is left of each v: along the path, each vertex's c v in whole ticks; over the vertices beside the path, each
-- one's c v times the share of a core of its kind. In a tick that begins with the path's first vertex ready, either that vertex runs,
-- and the first sum falls by a tick; or it waits, so all cores of its kind are busy with others. Each of these is ready and of the same
-- kind, so neither it nor the path's first vertex is an ancestor of the other: they are parallel, and it takes a share off the second sum.
use mathlib.Core.Path.{◌≡◌}
use mathlib.Core.List.{List, ◌∷◌}
use mathlib.Core.Logic.{◌⊎◌, inl, inr}
use mathlib.Core.Bool.{true, false}
use Prim.Native.Nat.{ℕ, suc, ◌+◌, ◌*◌, ◌≤◌, ◌<◌}
use native.Mathlib.Nat.{mul-le-mul_right}
use native.Mathlib.Omega.{arith}
use Rattle.model.specs.Places.{pick, along}
use Rattle.model.specs.Graph.{Graph, WellFormed}
use Rattle.model.specs.Cycle.{Walk, one, step, Acyclic}
use Rattle.model.specs.Path.{ToSink, Complete, complete}
use Rattle.model.specs.Bounds.{PARTS}
use Rattle.model.specs.Schedule.{Schedule, left, Finished, Ready, Times, WorkConserving}
use Rattle.model.specs.Second.{Parallel, parallel, second}
use Rattle.model.proofs.Bools.{clash, cases, or_left, or_right}
use Rattle.model.proofs.Sums.{sum_mono, along_mono}
use Rattle.model.proofs.Cycles.{ranked}
use Rattle.model.proofs.Paths.{head-known, along-path}
use Rattle.model.proofs.Finished.{fin_before, left-run}
use Rattle.model.proofs.Tick.{less, falls, wait-drop}
use Rattle.model.proofs.Potential.{late}
use Rattle.model.proofs.Shares.{share, share-of, share_exact}
use Rattle.model.proofs.Parallel.{near, parallel-holds}
use Rattle.model.proofs.Values.{value_of, value_aside, second-value}

-- the ancestors of a ready vertex are finished
before-finished : {G : Graph} {c : ℕ → ℕ} {u v : ℕ} → Ready G c v → Walk G u v → Finished G c u
before-finished {u = u} r (one e) = r.before u e
before-finished {u = u} r (step e x) = fin_before (before-finished r x) u e

-- two ready vertices of one kind are parallel
ready-parallel : {G : Graph} {c : ℕ → ℕ} {u v : ℕ} → Ready G c u → Ready G c v → G.kind u ≡ G.kind v → (u ≡ v → ⊥) → Parallel G u v
ready-parallel a b e x = record {
  same_kind = e;
  differ = x;
  not_before = λ w. a.unfinished (before-finished b w);
  not_after = λ w. b.unfinished (before-finished a w);
}

abbrev value : Graph → (ℕ → ℕ) → List ℕ → ℕ
value G c p = value_of G c (near G p) p

grow : (G : Graph) (c : ℕ → ℕ) (u : ℕ) (p : List ℕ) → value G c p ≤ value G c (u ∷ p)
unfolding value_of along near
grow G c u p = omega (arith, value_aside G c (near G p) (near G (u ∷ p)) p (λ v l t. or_right (parallel G v u) (near G p v) t))

module _ {G : Graph} (W : WellFormed G) (A : Acyclic G) {S : Schedule} (C : WorkConserving G S) where
  -- the head runs
  ran : (t u : ℕ) (p : List ℕ) → Ready G (left S t) u → S.runs t u ≡ true → value G (left S (suc t)) (u ∷ p) + PARTS ≤ value G (left S t) (u ∷ p)
  unfolding value_of along
  ran t u p r x =
      omega (
        arith,
        less (left S (suc t) u) (left S t u) PARTS (left-run S t r x),
        along_mono (λ v. left S (suc t) v * PARTS) (λ v. left S t v * PARTS) p (falls S (λ v. PARTS) t),
        sum_mono (λ v. left S (suc t) v * pick (near G (u ∷ p) v) (share G v) 0) (λ v. left S t v * pick (near G (u ∷ p) v) (share G v) 0) G.n
            (λ v l. falls S (λ v. pick (near G (u ∷ p) v) (share G v) 0) t v),
      )

  -- the head waits
  waited : (t u : ℕ) (p : List ℕ) → Ready G (left S t) u → u < G.n → S.runs t u ≡ false
      → value G (left S (suc t)) (u ∷ p) + PARTS ≤ value G (left S t) (u ∷ p)
  unfolding value_of near
  waited t u p r l x =
      omega (
        arith,
        along_mono (λ v. left S (suc t) v * PARTS) (λ v. left S t v * PARTS) (u ∷ p) (falls S (λ v. PARTS) t),
        wait-drop W A C t u r l x PARTS (λ v. pick (near G (u ∷ p) v) (share G v) 0) (share_exact W (G.kind u) (W.kind_known u l))
            (λ v k a e. rw (or_left (parallel G v u) (near G p v) (parallel-holds (ready-parallel (C.runs_ready t v k a) r e (λ q. clash (rw q at a) x)))) (share-of G v (G.kind u) e)),
      )

  tick : (t u : ℕ) (p : List ℕ) → Ready G (left S t) u → ToSink G (u ∷ p) → value G (left S (suc t)) (u ∷ p) + PARTS ≤ value G (left S t) (u ∷ p)
  tick t u p r c = go (cases (S.runs t u))
    where
      go : (S.runs t u ≡ true) ⊎ (S.runs t u ≡ false) → value G (left S (suc t)) (u ∷ p) + PARTS ≤ value G (left S t) (u ∷ p)
      go (inl x) = ran t u p r x
      go (inr x) = waited t u p r (head-known W c) x

  at_start : Times G S.time → (p : List ℕ) → ToSink G p → value G (left S 0) p ≤ second G p
  unfolding value_of left
  at_start h p c =
      omega (
        arith,
        second-value W p,
        along-path W (λ v. S.time v * PARTS) (λ v. G.wcet v * PARTS) c (λ v l. mul-le-mul_right PARTS (h v l)),
        sum_mono (λ v. S.time v * pick (near G p v) (share G v) 0) (λ v. G.wcet v * pick (near G p v) (share G v) 0) G.n
            (λ v l. mul-le-mul_right (pick (near G p v) (share G v) 0) (h v l)),
      )

  -- a vertex that is unfinished at the instant t leaves room in the bound for the tick from t to t + 1
  pub room-second : Times G S.time → (B : ℕ) → ((p : List ℕ) → Complete G p → second G p ≤ B)
      → (t v : ℕ) → v < G.n → (Finished G (left S t) v → ⊥) → suc t * PARTS ≤ B
  room-second h B b t v l x =
      late W (ranked W A) S PARTS B (λ t. value G (left S t)) (λ t. grow G (left S t)) tick begins t v l x
    where
      begins : (p : List ℕ) → Complete G p → value G (left S 0) p ≤ B
      begins p (complete s c) = omega (arith, at_start h p c, b p (complete s c))
