-- The value of a path in both new bounds, summed over the vertices.
--
-- Either is the path's WCETs in whole ticks, plus shares of others: in NEW-B-1 of all vertices that are not on the path, in NEW-B-2 of
-- those beside it alone. So NEW-B-2 is never above NEW-B-1, and what makes every WCET and every share smaller makes both smaller.
use mathlib.Core.Path.{◌≡◌, refl, ap, ◌∙◌}
use mathlib.Core.Bool.{Bool, true, false, not, ◌&&◌, ◌||◌}
use mathlib.Core.List.{List, [], ◌∷◌}
use Prim.Native.Nat.{ℕ, ◌+◌, ◌*◌, ◌/◌, ◌≤◌, ◌<◌}
use native.Mathlib.Nat.{mul-le-mul_left}
use native.Mathlib.Omega.{arith}
use lib.Dec.{eqb}
use borrow.Author.Tests.{eqb-true}
use Rattle.model.specs.Places.{pick, bit, sum, along}
use Rattle.model.specs.Graph.{Graph, WellFormed}
use Rattle.model.specs.Cycle.{Acyclic}
use Rattle.model.specs.Path.{ToSink, end, link, Complete, complete}
use Rattle.model.specs.Bounds.{PARTS, scaled, volume, NewB1}
use Rattle.model.specs.Second.{vol_parallel, second, NewB2}
use Rattle.model.proofs.Bools.{clash, true-not}
use Rattle.model.proofs.Sums.{sum_mono, sum_ext, sum-add, sum-zero, sum_single, along_scale, of_kind_of, by_kind}
use Rattle.model.proofs.Shares.{share, toll, share_toll, share_exact, exact, volume_by_vertex}
use Rattle.model.proofs.Parallel.{near, on, parallel-to_near, near_off, first-before}

-- what is left of each v being c v: the path's ticks, and the shares of those that pass the test
unfoldable pub value_of : Graph → (ℕ → ℕ) → (ℕ → Bool) → List ℕ → ℕ
value_of G c aside p = along (λ v. c v * PARTS) p + sum (λ v. c v * pick (aside v) (share G v) 0) G.n

-- ---- a sum along a path is one over the vertices

-- one vertex more, that is not on the path
sum-front : (f : ℕ → ℕ) (u : ℕ) (p : List ℕ) (n : ℕ) → u < n → (on p u ≡ true → ⊥)
    → sum (λ v. pick (on (u ∷ p) v) (f v) 0) n ≡ f u + sum (λ v. pick (on p v) (f v) 0) n
unfolding on
sum-front f u p n l x =
    omega (
      arith,
      sum_ext (λ v. pick (eqb u v || on p v) (f v) 0) (λ v. bit (eqb u v) * f v + pick (on p v) (f v) 0) n (λ v k. each v (eqb u v) (on p v) (λ a b. x (rw (eqb-true u v a) b))),
      sum-add (λ v. bit (eqb u v) * f v) (λ v. pick (on p v) (f v) 0) n,
      sum_single f u n l,
    )
  where
    each : (v : ℕ) (a b : Bool) → (a ≡ true → b ≡ true → ⊥) → pick (a || b) (f v) 0 ≡ bit a * f v + pick b (f v) 0
    each v true true h = absurd (h refl refl)
    each v true false h = omega arith
    each v false b h = omega arith

-- no vertex comes twice, where there is no cycle
pub along-on : {G : Graph} {p : List ℕ} → WellFormed G → Acyclic G → ToSink G p → (f : ℕ → ℕ) → along f p ≡ sum (λ v. pick (on p v) (f v) 0) G.n
unfolding along on
along-on {G} W A (end {v = u} l s) f =
    omega (arith, sum-front f u [] G.n l (λ t. clash t refl), sum-zero (λ v. pick (on [] v) (f v) 0) G.n (λ v k. refl))
along-on {G} W A (link {u = u} {v = w} {p = p} e c) f =
    omega (arith, along-on W A c f, sum-front f u (w ∷ p) G.n (W.from u w e) (λ t. A u (first-before {u = u} (link e c) t)))

-- ---- NEW-B-1

split : (G : Graph) (c : ℕ → ℕ) (p : List ℕ) → along (λ v. c v * PARTS) p ≡ along (λ v. c v * toll G v) p + along (λ v. c v * share G v) p
unfolding along
split G c [] = omega arith
split G c (v ∷ p) = omega (arith, split G c p, ap (λ (z : ℕ). c v * z) (share_toll G v))

scaled_toll : (G : Graph) (p : List ℕ) → along (scaled G) p ≡ along (λ v. G.wcet v * toll G v) p
unfolding scaled toll
scaled_toll G p = refl

volume-shares : {G : Graph} → WellFormed G → volume G ≡ sum (λ v. G.wcet v * share G v) G.n
unfolding share
volume-shares W = volume_by_vertex W

-- for every list whose sums are sums over the vertices on it
pub first-apart : {G : Graph} → WellFormed G → (p : List ℕ) → ((f : ℕ → ℕ) → along f p ≡ sum (λ v. pick (on p v) (f v) 0) G.n)
    → along (scaled G) p + volume G ≡ value_of G G.wcet (λ v. not (on p v)) p
unfolding value_of
first-apart {G} W p apart =
    omega (
      arith,
      scaled_toll G p,
      split G G.wcet p,
      apart (λ v. G.wcet v * share G v),
      volume-shares W,
      sum_ext (λ v. G.wcet v * share G v) (λ v. pick (on p v) (G.wcet v * share G v) 0 + G.wcet v * pick (not (on p v)) (share G v) 0) G.n (λ v l. each v (on p v)),
      sum-add (λ v. pick (on p v) (G.wcet v * share G v) 0) (λ v. G.wcet v * pick (not (on p v)) (share G v) 0) G.n,
    )
  where
    each : (v : ℕ) (b : Bool) → G.wcet v * share G v ≡ pick b (G.wcet v * share G v) 0 + G.wcet v * pick (not b) (share G v) 0
    each v true = omega arith
    each v false = omega arith

first-value : {G : Graph} {p : List ℕ} → WellFormed G → Acyclic G → ToSink G p
    → along (scaled G) p + volume G ≡ value_of G G.wcet (λ v. not (on p v)) p
first-value {p = p} W A c = first-apart W p (along-on W A c)

-- ---- NEW-B-2

-- the vertices beside p of one kind, and the share of each
one-kind : {G : Graph} → WellFormed G → (p : List ℕ) (s : ℕ) → vol_parallel G s p ≡ of_kind_of G.kind (λ v. pick (near G p v) (G.wcet v) 0) G.n s
unfolding vol_parallel
one-kind {G} W p s = sum_ext _ _ G.n (λ v l. rw (parallel-to_near W s p v) (each v (eqb (G.kind v) s) (near G p v)))
  where
    each : (v : ℕ) (a b : Bool) → pick (a && b) (G.wcet v) 0 ≡ pick a (pick b (G.wcet v) 0) 0
    each v true b = refl
    each v false b = refl

near_share : (G : Graph) (p : List ℕ) (v : ℕ)
    → pick (near G p v) (G.wcet v) 0 * (PARTS / G.cores (G.kind v)) ≡ G.wcet v * pick (near G p v) (share G v) 0
unfolding share
near_share G p v = each (near G p v)
  where
    each : (b : Bool) → pick b (G.wcet v) 0 * (PARTS / G.cores (G.kind v)) ≡ G.wcet v * pick b (PARTS / G.cores (G.kind v)) 0
    each true = refl
    each false = omega arith

pub second-value : {G : Graph} → WellFormed G → (p : List ℕ) → second G p ≡ value_of G G.wcet (near G p) p
unfolding second value_of
second-value {G} W p =
    omega (
      arith,
      along_scale G.wcet PARTS p,
      sum_ext (λ s. vol_parallel G s p * PARTS / G.cores s) (λ s. of_kind_of G.kind (λ v. pick (near G p v) (G.wcet v) 0) G.n s * (PARTS / G.cores s)) G.kinds
          (λ s l. exact (vol_parallel G s p) (G.cores s) (W.some_core s l) (share_exact W s l) ∙ ap (λ (x : ℕ). x * (PARTS / G.cores s)) (one-kind W p s)),
      by_kind G.kind (λ v. pick (near G p v) (G.wcet v) 0) (λ s. PARTS / G.cores s) G.n G.kinds W.kind_known,
      sum_ext (λ v. pick (near G p v) (G.wcet v) 0 * (PARTS / G.cores (G.kind v))) (λ v. G.wcet v * pick (near G p v) (share G v) 0) G.n
          (λ v l. near_share G p v),
    )

-- ---- which of the two is larger

pub value_aside : (G : Graph) (c : ℕ → ℕ) (a b : ℕ → Bool) (p : List ℕ) → ((v : ℕ) → v < G.n → a v ≡ true → b v ≡ true)
    → value_of G c a p ≤ value_of G c b p
unfolding value_of
value_aside G c a b p h =
    omega (
      arith,
      sum_mono (λ v. c v * pick (a v) (share G v) 0) (λ v. c v * pick (b v) (share G v) 0) G.n
          (λ v l. mul-le-mul_left (c v) (each v (a v) (b v) (h v l))),
    )
  where
    each : (v : ℕ) (a b : Bool) → (a ≡ true → b ≡ true) → pick a (share G v) 0 ≤ pick b (share G v) 0
    each v true b h = rw (h refl) (omega arith)
    each v false b h = omega arith

-- path by path, the second value is at most the first
second-le-first : {G : Graph} {p : List ℕ} → WellFormed G → Acyclic G → ToSink G p → second G p ≤ along (scaled G) p + volume G
second-le-first {G} {p} W A c =
    omega (
      arith,
      second-value W p,
      first-value W A c,
      value_aside G G.wcet (near G p) (λ v. not (on p v)) p (λ v l t. true-not (on p v) (near_off W c v t)),
    )

-- THEOREM. NEW-B-2 ≤ NEW-B-1.
pub second-le-new : {G : Graph} → WellFormed G → Acyclic G → (B B' : ℕ) → NewB2 G B → NewB1 G B' → B ≤ B'
second-le-new {G} W A B B' a b = go a.path a.is_complete a.attained
  where
    go : (p : List ℕ) → Complete G p → second G p ≡ B → B ≤ B'
    go p (complete s c) e = omega (arith, second-le-first W A c, b.is, b.longest.unexceeded p (complete s c))
