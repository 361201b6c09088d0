-- The potential of NEW-B-1.
--
-- A path's value, where c v is left of each v: along the path, each vertex's c v times the rest of a tick beside one core's share;
-- over the whole graph, each vertex's c v times the share of a core of its kind. In a tick that begins with the path's first vertex
-- ready, either that vertex runs, and its own two terms fall by the rest and the share, together a tick; or it waits, so all cores
-- of its kind are busy with others, and each of these takes a share off the second sum: together a tick.
use mathlib.Core.Path.{◌≡◌}
use mathlib.Core.List.{List, ◌∷◌}
use mathlib.Core.Logic.{◌⊎◌, inl, inr}
use mathlib.Core.Bool.{true, false}
use Prim.Native.Nat.{ℕ, suc, ◌+◌, ◌*◌, ◌/◌, ◌≤◌, ◌<◌}
use native.Mathlib.Nat.{mul-le-mul_right}
use native.Mathlib.Omega.{arith}
use Rattle.model.specs.Places.{sum, along}
use Rattle.model.specs.Graph.{Graph, WellFormed}
use Rattle.model.specs.Cycle.{Acyclic}
use Rattle.model.specs.Path.{ToSink, Complete, complete}
use Rattle.model.specs.Bounds.{PARTS, scaled, volume}
use Rattle.model.specs.Schedule.{Schedule, left, Finished, Ready, Times, WorkConserving}
use Rattle.model.proofs.Bools.{cases}
use Rattle.model.proofs.Sums.{sum_mono, sum_drop, along_mono}
use Rattle.model.proofs.Cycles.{ranked}
use Rattle.model.proofs.Paths.{head-known, along-path}
use Rattle.model.proofs.Finished.{left-run}
use Rattle.model.proofs.Tick.{less, falls, wait-drop}
use Rattle.model.proofs.Potential.{late}
use Rattle.model.proofs.Shares.{share, toll, share_toll, share-of, share_exact, volume_by_vertex}

value : Graph → (ℕ → ℕ) → List ℕ → ℕ
value G c p = along (λ v. c v * toll G v) p + sum (λ v. c v * share G v) G.n

grow : (G : Graph) (c : ℕ → ℕ) (u : ℕ) (p : List ℕ) → value G c p ≤ value G c (u ∷ p)
unfolding value along
grow G c u p = omega arith

module _ {G : Graph} (W : WellFormed G) (A : Acyclic G) {S : Schedule} (C : WorkConserving G S) where
  -- the head runs
  ran : (t u : ℕ) (p : List ℕ) → Ready G (left S t) u → u < G.n → S.runs t u ≡ true → value G (left S (suc t)) (u ∷ p) + PARTS ≤ value G (left S t) (u ∷ p)
  unfolding value along
  ran t u p r l x =
      omega (
        arith,
        share_toll G u,
        less (left S (suc t) u) (left S t u) (toll G u) (left-run S t r x),
        along_mono (λ v. left S (suc t) v * toll G v) (λ v. left S t v * toll G v) p (falls S (toll G) t),
        sum_drop (λ v. left S (suc t) v * share G v) (λ v. left S t v * share G v) (share G u) u G.n l (λ v k. falls S (share G) t v)
            (less (left S (suc t) u) (left S t u) (share G u) (left-run S t r x)),
      )

  -- the head waits
  waited : (t u : ℕ) (p : List ℕ) → Ready G (left S t) u → u < G.n → S.runs t u ≡ false → value G (left S (suc t)) (u ∷ p) + PARTS ≤ value G (left S t) (u ∷ p)
  unfolding value
  waited t u p r l x =
      omega (
        arith,
        along_mono (λ v. left S (suc t) v * toll G v) (λ v. left S t v * toll G v) (u ∷ p) (falls S (toll G) t),
        wait-drop W A C t u r l x PARTS (share G) (share_exact W (G.kind u) (W.kind_known u l)) (λ v k a e. share-of G v (G.kind u) e),
      )

  tick : (t u : ℕ) (p : List ℕ) → Ready G (left S t) u → ToSink G (u ∷ p) → value G (left S (suc t)) (u ∷ p) + PARTS ≤ value G (left S t) (u ∷ p)
  tick t u p r c = go (cases (S.runs t u))
    where
      go : (S.runs t u ≡ true) ⊎ (S.runs t u ≡ false) → value G (left S (suc t)) (u ∷ p) + PARTS ≤ value G (left S t) (u ∷ p)
      go (inl x) = ran t u p r (head-known W c) x
      go (inr x) = waited t u p r (head-known W c) x

  at_start : Times G S.time → (p : List ℕ) → ToSink G p → value G (left S 0) p ≤ along (scaled G) p + volume G
  unfolding value scaled toll share left
  at_start h p c =
      omega (
        arith,
        along-path W (λ v. S.time v * toll G v) (scaled G) c (λ v l. mul-le-mul_right (toll G v) (h v l)),
        sum_mono (λ v. S.time v * (PARTS / G.cores (G.kind v))) (λ v. G.wcet v * (PARTS / G.cores (G.kind v))) G.n
            (λ v l. mul-le-mul_right (PARTS / G.cores (G.kind v)) (h v l)),
        volume_by_vertex W,
      )

  -- a vertex that is unfinished at the instant t leaves room in the bound for the tick from t to t + 1
  pub room : Times G S.time → (B : ℕ) → ((p : List ℕ) → Complete G p → along (scaled G) p + volume G ≤ B)
      → (t v : ℕ) → v < G.n → (Finished G (left S t) v → ⊥) → suc t * PARTS ≤ B
  room h B b t v l x =
      late W (ranked W A) S PARTS B (λ t. value G (left S t)) (λ t. grow G (left S t)) tick begins t v l x
    where
      begins : (p : List ℕ) → Complete G p → value G (left S 0) p ≤ B
      begins p (complete s c) = omega (arith, at_start h p c, b p (complete s c))
