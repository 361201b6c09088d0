-- A pass from record to record: with none, with one more, with all.
use mathlib.Core.Path.{refl, sym}
use mathlib.Core.List.{List}
use Prim.Native.Nat.{ℕ, ◌+◌, max}
use native.Mathlib.Numerals.{add-one}
use lib.Dec.{eqb}
use Rattle.model.specs.Places.{bit, count, largest}
use Rattle.model.proofs.Places.{count-more}
use Rattle.graph.specs.File.{records, order, is_order, many}
use Rattle.records.specs.Passing.{Counted, Before}
use Rattle.records.specs.declared.Passed.{Passed}

pub before-none : (s : List ℕ) → Before s 0 (record { kinds = 0; vertices = 0; edges = 0; latest = 0 })
unfolding count largest
before-none s = record { kinds_passed = refl; vertices_passed = refl; edges_passed = refl; latest_passed = refl }

pub before_more : (s : List ℕ) (k : ℕ) (p : Passed) → Before s k p
    → Before s (k + 1) (record { kinds = p.kinds + bit (eqb (order s k) 0); vertices = p.vertices + bit (eqb (order s k) 1); edges = p.edges + bit (eqb (order s k) 2); latest = max p.latest (order s k) })
unfolding is_order largest
before_more s k p h =
    record {
      kinds_passed = rw h.kinds_passed (sym (count-more (is_order s 0) k));
      vertices_passed = rw h.vertices_passed (sym (count-more (is_order s 1) k));
      edges_passed = rw h.edges_passed (sym (count-more (is_order s 2) k));
      latest_passed = rw (h.latest_passed, add-one k) refl;
    }

pub all_passed : (s : List ℕ) (p : Passed) → Before s (records s) p → Counted s (record { kinds = p.kinds; n = p.vertices; edges = p.edges })
unfolding many
all_passed s p h = record { all_kinds = h.kinds_passed; all_vertices = h.vertices_passed; all_edges = h.edges_passed }
