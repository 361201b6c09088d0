-- NEW-B-2 can rise when an edge is removed, so that order 11 has that sentence for NEW-B-1 alone: three vertices are enough.
--
-- Vertex 0 of kind 1 and vertex 1 of kind 0 both come before vertex 2 of kind 0; every WCET is 1 tick, and each kind has one core. No two
-- are parallel, so NEW-B-2 is 2 ticks. Without the edge from 1 to 2 these two are parallel, and the path 0 2 may wait for vertex 1: 3 ticks.
use mathlib.Core.Path.{refl}
use mathlib.Core.Bool.{Bool, true, false, ◌&&◌}
use Prim.Native.Nat.{ℕ, ◌<◌}
use native.Mathlib.Omega.{arith}
use lib.Dec.{eqb, ltb}
use borrow.Author.Tests.{eqb-true, ltb-true}
use Rattle.model.specs.Places.{pick, any, sum, largest, along}
use Rattle.model.specs.Graph.{Graph, source, sink, WellFormed}
use Rattle.model.specs.Cycle.{reach, ancestor, walks, cyclic, Acyclic}
use Rattle.model.specs.Second.{parallel, parallel_to, vol_parallel, second, NewB2}
use Rattle.model.specs.PathCount.{ways_within, ways, path_count}
use Rattle.model.specs.Visit.{amid, path_within, path_at}
use Rattle.model.specs.Better.{without_edge}
use Rattle.model.proofs.Bools.{left-of, right_of}
use Rattle.model.proofs.Cycles.{acyclic-test}
use Rattle.model.proofs.Visit.{second_of, second_computed, new_b_2_unique}
use Rattle.model.proofs.Changes.{without_well, without-acyclic}

abbrev pub three : Graph
three = record { n = 3; kinds = 2; kind = λ v. pick (eqb v 0) 1 0; cores = λ s. 1; wcet = λ v. 1; edge = λ u v. ltb u 2 && eqb v 2 }

three_well : WellFormed three
three_well = record {
  some = omega arith;
  from = λ u v e. omega (arith, ltb-true u 2 (left-of (ltb u 2) (eqb v 2) e));
  to = λ u v e. omega (arith, eqb-true v 2 (right_of (ltb u 2) (eqb v 2) e));
  kind_known = λ v l. known v (eqb v 0);
  some_core = λ s l. omega arith;
  few_cores = λ s l. omega arith;
}
  where
    known : (v : ℕ) (b : Bool) → pick b 1 0 < 2
    known v true = omega arith
    known v false = omega arith

three-acyclic : Acyclic three
unfolding walks cyclic any
three-acyclic = acyclic-test three_well refl

second-with : NewB2 three 1441440
unfolding any sum largest along source sink reach ancestor parallel parallel_to vol_parallel second ways_within ways path_count amid path_within path_at second_of
second-with = second_computed three_well three-acyclic

second-without : NewB2 (without_edge three 1 2) 2162160
unfolding any sum largest along source sink reach ancestor parallel parallel_to vol_parallel second ways_within ways path_count amid path_within path_at second_of
second-without = second_computed (without_well three_well 1 2) (without-acyclic three_well 1 2 three-acyclic)

-- THEOREM. Removing the edge from 1 to 2 raises NEW-B-2.
pub removal_rises : (B B' : ℕ) → NewB2 three B → NewB2 (without_edge three 1 2) B' → B < B'
removal_rises B B' a b = omega (arith, new_b_2_unique B 1441440 a second-with, new_b_2_unique B' 2162160 b second-without)
