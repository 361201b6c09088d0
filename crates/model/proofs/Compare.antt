-- What the most cores are, and that NEW-B-1 is never above OLD-B: along every path, no vertex's kind has more cores than the most.
use mathlib.Core.Path.{◌≡◌, refl}
use mathlib.Core.Bool.{Bool, true, false}
use mathlib.Core.List.{List}
use mathlib.Core.Logic.{◌⊎◌, inl, inr}
use Prim.Native.Nat.{ℕ, ◌-◌, ◌*◌, ◌/◌, ◌≤◌, ◌<◌}
use native.Mathlib.Nat.{mul-le-mul_right, mul-le-mul_left}
use native.Mathlib.Omega.{arith}
use lib.Dec.{eqb}
use borrow.Author.Tests.{eq-eqb, eqb-true}
use Rattle.model.specs.Places.{pick, along}
use Rattle.model.specs.Graph.{Graph, WellFormed}
use Rattle.model.specs.Path.{Complete, complete}
use Rattle.model.specs.Bounds.{PARTS, scaled, used, most_cores_of, OldB, NewB1}
use Rattle.model.proofs.Places.{any_intro, any_elim}
use Rattle.model.proofs.Sums.{along_scale, largest-most, largest-is}
use Rattle.model.proofs.Paths.{along-path}
use Rattle.model.proofs.Shares.{share_falls}

-- a vertex's kind is used, whatever the vertex's WCET
kind-used : (G : Graph) (v : ℕ) → v < G.n → used G (G.kind v) ≡ true
unfolding used
kind-used G v l = any_intro (λ u. eqb (G.kind u) (G.kind v)) G.n v l (eq-eqb (G.kind v) (G.kind v) refl)

-- THEOREM. No vertex has a kind of more cores.
pub most-cores : {G : Graph} → WellFormed G → (v : ℕ) → v < G.n → G.cores (G.kind v) ≤ most_cores_of G
unfolding most_cores_of
most-cores {G} W v l = rw (kind-used G v l) at (largest-most (λ s. pick (used G s) (G.cores s) 0) G.kinds (G.kind v) (W.kind_known v l))

pub some-cores : {G : Graph} → WellFormed G → 0 < most_cores_of G
some-cores {G} W = omega (arith, most-cores W 0 W.some, W.some_core (G.kind 0) (W.kind_known 0 W.some))

-- THEOREM. And some vertex has a kind of so many.
pub most-cores-of : {G : Graph} → WellFormed G → (v : ℕ) × (v < G.n) × (most_cores_of G ≡ G.cores (G.kind v))
unfolding most_cores_of used
most-cores-of {G} W = go (largest-is (λ s. pick (used G s) (G.cores s) 0) G.kinds)
  where
    of-kind : (s : ℕ) (b : Bool) → used G s ≡ b → most_cores_of G ≡ pick b (G.cores s) 0 → (v : ℕ) × (v < G.n) × (most_cores_of G ≡ G.cores (G.kind v))
    of-kind s false t e = absurd (omega (arith, some-cores W))
    of-kind s true t e =
        let r = any_elim (λ v. eqb (G.kind v) s) G.n t in
        (r.0, r.1, rw (eqb-true (G.kind r.0) s r.2) e)

    go : (most_cores_of G ≡ 0) ⊎ ((s : ℕ) × (s < G.kinds) × (most_cores_of G ≡ pick (used G s) (G.cores s) 0))
        → (v : ℕ) × (v < G.n) × (most_cores_of G ≡ G.cores (G.kind v))
    go (inl z) = absurd (omega (arith, some-cores W))
    go (inr r) = of-kind r.0 (used G r.0) refl r.2

-- a path's scaled sum is at most its sum, scaled by the most cores
scaled-most : {G : Graph} → WellFormed G → (p : List ℕ) → Complete G p → along (scaled G) p ≤ along G.wcet p * (PARTS - PARTS / most_cores_of G)
unfolding scaled
scaled-most {G} W p (complete s c) =
    omega (
      arith,
      along-path W (scaled G) (λ v. G.wcet v * (PARTS - PARTS / most_cores_of G)) c
          (λ v k. mul-le-mul_left (G.wcet v)
          (omega (arith, share_falls PARTS (G.cores (G.kind v)) (most_cores_of G) (W.some_core (G.kind v) (W.kind_known v k)) (most-cores W v k)))),
      along_scale G.wcet (PARTS - PARTS / most_cores_of G) p,
    )

-- THEOREM. NEW-B-1 ≤ OLD-B.
pub new-le-old : {G : Graph} → WellFormed G → (B B' : ℕ) → NewB1 G B → OldB G B' → B ≤ B'
new-le-old {G} W B B' a b =
    let p = a.longest.path in
    let c = a.longest.is_complete in
    omega (
      arith,
      a.is,
      b.is,
      a.longest.attained,
      scaled-most W p c,
      mul-le-mul_right (PARTS - PARTS / most_cores_of G) (b.longest.unexceeded p c),
    )
