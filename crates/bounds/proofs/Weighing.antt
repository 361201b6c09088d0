-- What the lists of weights say, and the two bounds from the largest sums over them. Nothing overflows: a weight is at most
-- 1,000,000 ticks in parts, a path at most 128 of them.
use mathlib.Core.Path.{◌≡◌, refl, ap, ◌∙◌, fun_ext}
use mathlib.Core.List.{List}
use Prim.Native.Nat.{ℕ, ◌-◌, ◌*◌, ◌/◌, ◌≤◌, ◌<◌}
use native.Mathlib.Nat.{mul-le-mul_left, mul-le-mul_right}
use native.Mathlib.Omega.{arith}
use lib.ListN.{get_or}
use Rattle.model.specs.Places.{along, padded}
use Rattle.model.specs.Path.{Greatest}
use Rattle.model.specs.Bounds.{PARTS, scaled}
use Rattle.model.specs.Graph as model
use Rattle.model.proofs.Tables.{padded-at}
use Rattle.graph.specs.Model.{AcceptedGraph, as_model}
use Rattle.graph.specs.declared.Graph.{Graph}
use Rattle.reader.specs.Laid.{Along}
use Rattle.weights.specs.Weight.{weight_by, stages, Small}
use Rattle.weights.specs.declared.Measure.{Measure}
use Rattle.weights.specs.declared.Measure.TheVariants.{Plain, Scaled}
use Rattle.paths.specs.Ahead.{weigh, Weighed, Sources}
use Rattle.paths.proofs.Complete.{greatest_same, greatest_small}

pub weighs : {w : List ℕ} (f : ℕ → ℕ) (n : ℕ) → w ≡ padded 128 f n → (v : ℕ) → v < n → weigh w v ≡ f v
weighs f n e v l = ap (λ (x : List ℕ). get_or x v 0) e ∙ padded-at 128 f n v l

module _ {g : Graph} (G : AcceptedGraph g) where
  pub small-stages : Small (stages g.kind g.wcet g.cores g.kinds g.n)
  unfolding as_model
  small-stages = record {
    few_kinds = G.few_kinds;
    few_vertices = G.few_vertices;
    kind_known = G.well_formed.kind_known;
    some_core = G.well_formed.some_core;
    short = G.short;
  }

  -- a list of weights by a measure of which none is above c, and the largest sum over it
  module _ {st o : List ℕ} (A : Along g st o) (by : Measure) (c : ℕ) (most : (v : ℕ) → v < g.n → weight_by by (as_model g) v ≤ c) (room : c ≤ 720720000000)
      {w : List ℕ} (e : w ≡ padded 128 (weight_by by (stages g.kind g.wcet g.cores g.kinds g.n)) g.n) where
    weights-are : (v : ℕ) → v < g.n → weigh w v ≡ weight_by by (as_model g) v
    unfolding weight_by as_model
    weights-are = weighs (weight_by by (as_model g)) g.n e

    pub weighed_by : Weighed g g.edge st o g.n w
    unfolding as_model
    weighed_by = record {
      rows = record { accepted = G; edge = refl; starts = A.starts };
      order = A.order;
      vertices = refl;
      light = λ v l. omega (arith, weights-are v l, most v l);
    }

    module _ (l : List ℕ) (S : Sources g l) (x : ℕ) (largest : (h : Graph) → Weighed h g.edge st o g.n w → Sources h l → Greatest (as_model h) (along (weigh w)) x) where
      pub greatest_by : Greatest (as_model g) (along (weight_by by (as_model g))) x
      unfolding as_model
      greatest_by = greatest_same G.well_formed (weigh w) (weight_by by (as_model g)) weights-are (largest g weighed_by S)

      pub small_by : x ≤ c * 128
      unfolding as_model
      small_by =
          omega (arith, greatest_small G.well_formed G.acyclic (weight_by by (as_model g)) c most greatest_by, mul-le-mul_left c G.few_vertices)

  pub plain-most : (v : ℕ) → v < g.n → weight_by Plain (as_model g) v ≤ 1000000
  unfolding weight_by as_model
  plain-most v l = omega (arith, G.short v l)

  pub scaled-most : (v : ℕ) → v < g.n → weight_by Scaled (as_model g) v ≤ 720720000000
  unfolding weight_by as_model
  scaled-most v l =
      let c = get_or g.cores (get_or g.kind v 0) 0 in
      let d : PARTS - PARTS / c ≤ PARTS = omega arith in
      omega (arith, mul-le-mul_right (PARTS - PARTS / c) (G.short v l), mul-le-mul_left 1000000 d)

-- the measures are the model's weights
pub plain-is : (G : model.Graph) → weight_by Plain G ≡ G.wcet
unfolding weight_by
plain-is G = fun_ext (λ v. omega arith)

pub scaled-is : (G : model.Graph) → weight_by Scaled G ≡ scaled G
unfolding weight_by scaled
scaled-is G = refl
