-- Gains: each vertex has one, and one only; it is never above the vertex's WCET in parts; and it follows from two longest paths.
--
-- A gain has two parts. The volume falls by v's share of it, its WCET × PARTS / cores. The longest path falls by v's scaled weight at most, its
-- WCET × (PARTS - PARTS / cores), since a path has v once at most. The two make WCET × PARTS.
use mathlib.Core.Path.{◌≡◌, refl, ap, fun_ext}
use mathlib.Core.List.{List, [], ◌∷◌}
use mathlib.Core.Bool.{Bool, true, false}
use Prim.Native.Nat.{ℕ, zero, suc, ◌+◌, ◌-◌, ◌*◌, ◌/◌, ◌≤◌, ◌<◌}
use native.Mathlib.Omega.{arith}
use native.Mathlib.Decide.{ℕ_discrete}
use lib.Dec.{eqb}
use Rattle.model.specs.Places.{pick, sum, along}
use Rattle.model.specs.Graph.{Graph, WellFormed}
use Rattle.model.specs.Cycle.{Acyclic, Ranked}
use Rattle.model.specs.Path.{ToSink, end, link, Complete, complete, Greatest}
use Rattle.model.specs.Bounds.{PARTS, scaled, volume}
use Rattle.model.specs.Gain.{with_wcet, GainOf}
use Rattle.model.proofs.Sums.{sum_ext, along_mono}
use Rattle.model.proofs.Cycles.{ranked}
use Rattle.model.proofs.Shares.{share, toll, share_toll, volume_by_vertex}
use Rattle.model.proofs.Longest.{greatest_exists, new_b_1_unique}
use Rattle.model.proofs.Joined.{without, without_at, without_other, without-le, since}
use Rattle.model.proofs.Alike.{alike_back, wcet_alike, wcet_well_formed, greatest_alike}

-- v's part of the volume
abbrev pub share_of : Graph → ℕ → ℕ
share_of G v = G.wcet v * (PARTS / G.cores (G.kind v))

sum-without : (f : ℕ → ℕ) (v n : ℕ) → v < n → sum (without f v) n + f v ≡ sum f n
unfolding sum
sum-without f v zero l = absurd (omega arith)
sum-without f v (suc n) l = go (ℕ_discrete n v) (λ k. sum-without f v n k)
  where
    go : Dec (n ≡ v) → (v < n → sum (without f v) n + f v ≡ sum f n) → sum (without f v) n + without f v n + f v ≡ sum f n + f n
    go (yes q) ih =
        let z : without f v n ≡ 0 = rw q (without_at f v) in
        omega (arith, sum_ext (without f v) f n (λ u k. without_other f v u (λ e. omega arith)), ap f q)
    go (no q) ih = omega (arith, ih (omega arith), without_other f v n q)

pick_times : (b : Bool) (x c : ℕ) → pick b 0 x * c ≡ pick b 0 (x * c)
pick_times true x c = omega arith
pick_times false x c = refl

volume-without : {G : Graph} → WellFormed G → (v : ℕ) → v < G.n → volume (with_wcet G v 0) + share_of G v ≡ volume G
unfolding with_wcet
volume-without {G} W v l =
    omega (
      arith,
      volume_by_vertex W,
      volume_by_vertex (wcet_well_formed W v 0),
      sum_ext (λ u. pick (eqb u v) 0 (G.wcet u) * (PARTS / G.cores (G.kind u))) (without (share_of G) v) G.n
          (λ u k. pick_times (eqb u v) (G.wcet u) (PARTS / G.cores (G.kind u))),
      sum-without (share_of G) v G.n l,
    )

scaled-without : (G : Graph) (v : ℕ) → scaled (with_wcet G v 0) ≡ without (scaled G) v
unfolding scaled with_wcet
scaled-without G v = fun_ext (λ u. pick_times (eqb u v) (G.wcet u) (PARTS - PARTS / G.cores (G.kind u)))

pub share-and-scaled : (G : Graph) (v : ℕ) → scaled G v + share_of G v ≡ G.wcet v * PARTS
unfolding scaled share toll
share-and-scaled G v = omega (arith, ap (λ (z : ℕ). G.wcet v * z) (share_toll G v))

-- the longest path where the WCET of v is 0
wcet_greatest : (G : Graph) (v : ℕ) {x : ℕ} → Greatest G (along (without (scaled G) v)) x → Greatest (with_wcet G v 0) (along (scaled (with_wcet G v 0))) x
wcet_greatest G v r = rw (scaled-without G v) (greatest_alike (wcet_alike G v 0) r)

greatest_wcet : (G : Graph) (v : ℕ) {x : ℕ} → Greatest (with_wcet G v 0) (along (scaled (with_wcet G v 0))) x → Greatest G (along (without (scaled G) v)) x
greatest_wcet G v r = greatest_alike (alike_back (wcet_alike G v 0)) (rw (scaled-without G v) at r)

-- no path rises where a weight does not count, and none falls by more than the weight
pub greatest_falls : {G : Graph} (f : ℕ → ℕ) (v : ℕ) {x y : ℕ} → Greatest G (along f) x → Greatest G (along (without f v)) y → y ≤ x
greatest_falls f v a b =
    omega (arith, b.attained, along_mono (without f v) f b.path (without-le f v), a.unexceeded b.path b.is_complete)

module _ {G : Graph} (R : Ranked G) (f : ℕ → ℕ) (v : ℕ) where
  -- a path has v once at most
  once : (p : List ℕ) → ToSink G p → along f p ≤ along (without f v) p + f v
  unfolding along
  once [] x = elim x [ ]
  once (u ∷ []) (end l s) = go (ℕ_discrete u v)
    where
      go : Dec (u ≡ v) → f u + 0 ≤ without f v u + 0 + f v
      go (yes q) = omega (arith, ap f q)
      go (no q) = omega (arith, without_other f v u q)
  once (u ∷ (w ∷ p)) (link e t) = go (ℕ_discrete u v) (once (w ∷ p) t)
    where
      go : Dec (u ≡ v) → along f (w ∷ p) ≤ along (without f v) (w ∷ p) + f v → along f (u ∷ (w ∷ p)) ≤ along (without f v) (u ∷ (w ∷ p)) + f v
      go (yes q) ih = let c : ToSink G (v ∷ (w ∷ p)) = rw q at (link e t) in omega (arith, ap f q, since R f v c)
      go (no q) ih = omega (arith, without_other f v u q)

  falls-by-own : {x y : ℕ} → Greatest G (along f) x → Greatest G (along (without f v)) y → x ≤ y + f v
  falls-by-own a b = omega (arith, a.attained, b.unexceeded a.path a.is_complete, by a.path a.is_complete)
    where
      by : (p : List ℕ) → Complete G p → along f p ≤ along (without f v) p + f v
      by p (complete {u = u} {p = q} s t) = once (u ∷ q) t

-- ---- the theorems

-- THEOREM. The gain of v: what the longest path loses where v's scaled weight does not count, and v's part of the volume.
pub gain_law : {G : Graph} → WellFormed G → (v : ℕ) → v < G.n → {len left : ℕ} → Greatest G (along (scaled G)) len
    → Greatest G (along (without (scaled G) v)) left → GainOf G v (len - left + share_of G v)
gain_law {G} W v l {len} {left} a b = record {
  now = len + volume G;
  then = left + volume (with_wcet G v 0);
  now_is = record { len = len; longest = a; is = refl };
  then_is = record { len = left; longest = wcet_greatest G v b; is = refl };
  is = omega (arith, volume-without W v l, greatest_falls (scaled G) v a b);
}

-- THEOREM. Every vertex has a gain, and one only.
pub gain_exists : {G : Graph} → WellFormed G → Acyclic G → (v : ℕ) → v < G.n → (x : ℕ) × GainOf G v x
gain_exists {G} W A v l =
    let a = greatest_exists W A (scaled G) in
    let b = greatest_exists W A (without (scaled G) v) in
    (a.0 - b.0 + share_of G v, gain_law W v l a.1 b.1)

pub gain_unique : {G : Graph} {v x y : ℕ} → GainOf G v x → GainOf G v y → x ≡ y
gain_unique a b =
    omega (
      arith,
      a.is,
      b.is,
      new_b_1_unique a.now b.now a.now_is b.now_is,
      new_b_1_unique a.then b.then a.then_is b.then_is,
    )

-- THEOREM. A gain is never more than the vertex's WCET in parts.
pub gain-most : {G : Graph} → WellFormed G → Acyclic G → {v x : ℕ} → v < G.n → GainOf G v x → x ≤ G.wcet v * PARTS
gain-most {G} W A {v} {x} l g =
    let a = g.now_is in
    let b = g.then_is in
    omega (
      arith,
      g.is,
      a.is,
      b.is,
      volume-without W v l,
      falls-by-own (ranked W A) (scaled G) v a.longest (greatest_wcet G v b.longest),
      share-and-scaled G v,
    )
