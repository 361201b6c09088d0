-- A path's second value by a walk that keeps two things of the path walked so far: the set of the vertices beside it, and its value. And the
-- largest value of a complete path, by the numbers of the paths.
--
-- A step to v adds the WCET of v, and the WCETs of those parallel to v that were not yet beside the path, each by its share. These are all
-- of v's kind, so that one share serves them.
use mathlib.Core.Path.{◌≡◌, refl, ap, sym, ◌∙◌}
use mathlib.Core.Logic.{◌⊎◌, inl, inr}
use mathlib.Core.Bool.{Bool, true, false, not, ◌&&◌, ◌||◌}
use mathlib.Core.List.{List, [], ◌∷◌}
use Prim.Native.Nat.{ℕ, ◌+◌, ◌*◌, ◌/◌, ◌≤◌, ◌<◌, zero-le}
use native.Mathlib.Nat.{mul-le-mul_left, mul-le-mul_right, div-le_self}
use native.Mathlib.Omega.{arith}
use Rattle.model.specs.Places.{pick, sum, largest, along}
use Rattle.model.specs.Graph.{Graph, WellFormed}
use Rattle.model.specs.Cycle.{Acyclic}
use Rattle.model.specs.Path.{Complete, Greatest}
use Rattle.model.specs.Bounds.{PARTS}
use Rattle.model.specs.Second.{Parallel, parallel, second, NewB2}
use Rattle.model.specs.PathCount.{path_count, Numbered}
use Rattle.model.specs.Visit.{path_at, nothing, fresh, widened, gained, value_from}
use Rattle.model.proofs.Bools.{right_of}
use Rattle.model.proofs.Sums.{sum_ext, sum-add, sum_mono, sum-zero, sum_scale, along_scale, largest-most, largest-is}
use Rattle.model.proofs.Longest.{greatest_exists, greatest_unique}
use Rattle.model.proofs.Shares.{share, share-of}
use Rattle.model.proofs.Parallel.{near, is-parallel}
use Rattle.model.proofs.Values.{value_of, second-value}
use Rattle.model.proofs.Counted.{paths_numbered}

-- ---- one step

-- what the vertices outside U and beside p add
outside : Graph → (ℕ → Bool) → List ℕ → ℕ
outside G U p = sum (λ w. G.wcet w * pick (not (U w) && near G p w) (share G w) 0) G.n

-- the fresh ones are of v's kind
gained-shares : {G : Graph} → WellFormed G → (U : ℕ → Bool) (v : ℕ)
    → gained G U v ≡ G.wcet v * PARTS + sum (λ w. G.wcet w * pick (fresh G U v w) (share G w) 0) G.n
unfolding gained fresh
gained-shares {G} W U v =
    omega (
      arith,
      sum_scale (λ w. pick (not (U w) && parallel G w v) (G.wcet w) 0) (PARTS / G.cores (G.kind v)) G.n,
      sum_ext (λ w. pick (not (U w) && parallel G w v) (G.wcet w) 0 * (PARTS / G.cores (G.kind v))) (λ w. G.wcet w * pick (not (U w) && parallel G w v) (share G w) 0) G.n
          (λ w l. each w (not (U w) && parallel G w v) (λ t. is-parallel W w v (right_of (not (U w)) (parallel G w v) t))),
    )
  where
    each : (w : ℕ) (b : Bool) → (b ≡ true → Parallel G w v) → pick b (G.wcet w) 0 * (PARTS / G.cores (G.kind v)) ≡ G.wcet w * pick b (share G w) 0
    each w true h = rw (share-of G w (G.kind v) (h refl).same_kind) refl
    each w false h = omega arith

value-from : {G : Graph} → WellFormed G → (U : ℕ → Bool) (x : ℕ) (p : List ℕ) → value_from G U x p ≡ x + along G.wcet p * PARTS + outside G U p
unfolding value_from along outside near fresh
value-from {G} W U x [] = omega (arith, sum-zero (λ w. G.wcet w * pick (not (U w) && false) (share G w) 0) G.n (λ w l. none w (not (U w))))
  where
    none : (w : ℕ) (b : Bool) → G.wcet w * pick (b && false) (share G w) 0 ≡ 0
    none w true = omega arith
    none w false = omega arith
value-from {G} W U x (v ∷ p) =
    omega (
      arith,
      value-from W (widened G U v) (x + gained G U v) p,
      gained-shares W U v,
      sum_ext (λ w. G.wcet w * pick (not (U w) && (parallel G w v || near G p w)) (share G w) 0)
          (λ w. G.wcet w * pick (not (U w) && parallel G w v) (share G w) 0 + G.wcet w * pick (not (U w || parallel G w v) && near G p w) (share G w) 0) G.n
          (λ w l. each w (U w) (parallel G w v) (near G p w)),
      sum-add (λ w. G.wcet w * pick (not (U w) && parallel G w v) (share G w) 0) (λ w. G.wcet w * pick (not (U w || parallel G w v) && near G p w) (share G w) 0) G.n,
    )
  where
    each : (w : ℕ) (a b c : Bool)
        → G.wcet w * pick (not a && (b || c)) (share G w) 0 ≡ G.wcet w * pick (not a && b) (share G w) 0 + G.wcet w * pick (not (a || b) && c) (share G w) 0
    each w true b c = omega arith
    each w false true c = omega arith
    each w false false c = omega arith

-- no step adds more than this, so that numbers of 64 bits hold every value
pub gained-most : (G : Graph) (U : ℕ → Bool) (v : ℕ) → gained G U v ≤ (G.wcet v + sum G.wcet G.n) * PARTS
unfolding gained
gained-most G U v =
    let h : sum (λ w. pick (fresh G U v w) (G.wcet w) 0) G.n ≤ sum G.wcet G.n = sum_mono (λ w. pick (fresh G U v w) (G.wcet w) 0) G.wcet G.n (λ w l. each w (fresh G U v w)) in
    omega (
      arith,
      mul-le-mul_left (sum (λ w. pick (fresh G U v w) (G.wcet w) 0) G.n) (div-le_self PARTS (G.cores (G.kind v))),
      mul-le-mul_right PARTS h,
    )
  where
    each : (w : ℕ) (b : Bool) → pick b (G.wcet w) 0 ≤ G.wcet w
    each w true = omega arith
    each w false = zero-le

-- only what a set says of the vertices that there are counts
module _ (G : Graph) where
  gained-same : (U U' : ℕ → Bool) (v : ℕ) → ((w : ℕ) → w < G.n → U w ≡ U' w) → gained G U v ≡ gained G U' v
  unfolding gained fresh
  gained-same U U' v e =
      ap (λ (x : ℕ). G.wcet v * PARTS + x * (PARTS / G.cores (G.kind v)))
      (sum_ext (λ w. pick (not (U w) && parallel G w v) (G.wcet w) 0) (λ w. pick (not (U' w) && parallel G w v) (G.wcet w) 0) G.n
      (λ w l. ap (λ (b : Bool). pick (not b && parallel G w v) (G.wcet w) 0) (e w l)))

  pub value_same : (U U' : ℕ → Bool) (x : ℕ) (p : List ℕ) → ((w : ℕ) → w < G.n → U w ≡ U' w) → value_from G U x p ≡ value_from G U' x p
  unfolding value_from
  value_same U U' x [] e = refl
  value_same U U' x (v ∷ p) e =
      ap (λ (y : ℕ). value_from G (widened G U v) (x + y) p) (gained-same U U' v e)
      ∙ value_same (widened G U v) (widened G U' v) (x + gained G U' v) p (λ w l. ap (λ (b : Bool). b || parallel G w v) (e w l))

-- THEOREM. Walked from its first vertex on, a path has its second value.
pub second_walked : {G : Graph} → WellFormed G → (p : List ℕ) → second G p ≡ value_from G nothing 0 p
unfolding value_of outside
second_walked {G} W p = omega (arith, second-value W p, value-from W nothing 0 p, along_scale G.wcet PARTS p)

-- ---- over all paths

-- THEOREM. Whatever the value of a path is, the largest over the numbers of the paths is the largest over the complete paths.
pub greatest_numbered : {G : Graph} → WellFormed G → Acyclic G → (value : List ℕ → ℕ)
    → Greatest G value (largest (λ i. value (path_at G i)) (path_count G))
greatest_numbered {G} W A value = go (largest-is (λ i. value (path_at G i)) (path_count G))
  where
    N : Numbered (Complete G) (path_count G) (path_at G)
    N = paths_numbered W A

    most : (i : ℕ) → i < path_count G → value (path_at G i) ≤ largest (λ i. value (path_at G i)) (path_count G)
    most = largest-most (λ i. value (path_at G i)) (path_count G)

    by : (i : ℕ) → i < path_count G → value (path_at G i) ≡ largest (λ i. value (path_at G i)) (path_count G)
        → Greatest G value (largest (λ i. value (path_at G i)) (path_count G))
    by i l e = record {
      path = path_at G i;
      is_complete = N.has i l;
      attained = e;
      unexceeded = λ p c. let r = N.every p c in rw r.2 at (most r.0 r.1);
    }

    go : (largest (λ i. value (path_at G i)) (path_count G) ≡ 0) ⊎ ((i : ℕ) × (i < path_count G) × (largest (λ i. value (path_at G i)) (path_count G) ≡ value (path_at G i)))
        → Greatest G value (largest (λ i. value (path_at G i)) (path_count G))
    go (inr r) = by r.0 r.1 (sym r.2)
    go (inl z) =
        let some = (greatest_exists W A (λ v. 0)).1 in
        let r = N.every some.path some.is_complete in
        by r.0 r.1 (omega (arith, most r.0 r.1))

-- NEW-B-2 as a function that computes
unfoldable pub second_of : Graph → ℕ
second_of G = largest (λ i. second G (path_at G i)) (path_count G)

pub second_computed : {G : Graph} → WellFormed G → Acyclic G → NewB2 G (second_of G)
unfolding second_of
second_computed {G} W A = greatest_numbered W A (second G)

-- THEOREM. Every well-formed acyclic graph has a NEW-B-2, and one only.
pub new_b_2_exists : {G : Graph} → WellFormed G → Acyclic G → (B : ℕ) × NewB2 G B
new_b_2_exists {G} W A = (second_of G, second_computed W A)

pub new_b_2_unique : {G : Graph} (B B' : ℕ) → NewB2 G B → NewB2 G B' → B ≡ B'
new_b_2_unique B B' a b = greatest_unique a b
