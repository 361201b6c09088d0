-- What an accepted file tells, for the layers above: they need to open no rule.
--
--   accepted          the graph of an accepted file is an accepted graph
--   taken             the same, of what the reader hands back
--   refused_rightly   a refusal of the reader is the lowest number that applies, with the first place that it holds for
use mathlib.Core.Path.{◌≡◌, ap, ◌∙◌}
use mathlib.Core.Bool.{false, not, ◌||◌}
use mathlib.Core.List.{List}
use Prim.Native.Nat.{ℕ, suc, ◌+◌, ◌-◌, ◌*◌, ◌≤◌, ◌<◌}
use native.Mathlib.Omega.{arith}
use lib.Dec.{eqb, ltb, leb, lit<, lit≤}
use lib.ListN.{get_or}
use borrow.Author.Tests.{ltb-false, leb-false, eqb-true, eqb-false, lt-ltb}
use Rattle.model.specs.Graph.{Edge, WellFormed}
use Rattle.model.specs.Cycle.{Acyclic}
use Rattle.model.proofs.Bools.{or_neither, left-of, right_of}
use Rattle.model.proofs.Places.{any_elim}
use Rattle.model.proofs.Tables.{padded-at, padded-past}
use Rattle.model.proofs.Cycles.{acyclic-test}
use Rattle.graph.specs.File.{records, byte_at, word_at, key_at, order, many, column, words, keys, graph_of}
use Rattle.graph.specs.Model.{from, to, joins, as_model, AcceptedGraph}
use Rattle.graph.specs.Rules.{holds, places, rule2, rule3, rule4, rule5, rule6, rule7, rule8, rule9, rule10, rule11}
use Rattle.graph.specs.Judge.{judge_from, Rightly, read_of}
use Rattle.graph.specs.declared.Refusal.{Refusal}
use Rattle.graph.specs.Answer.{Accepted, Refused}
use Rattle.graph.proofs.Judging.{none-holds, rightly, all_fit}
use Rattle.graph.proofs.Orders.{kind-record, vertex-record, edge-record}

-- ---- where none of the numbers up to 10 applies

module _ (s : List ℕ) (bytes : (i : ℕ) → get_or s i 0 < 256) (quiet : (num : ℕ) → 2 ≤ num → num < 11 → (k : ℕ) → k < places s num → holds s num k ≡ false) where
  known : (k : ℕ) → k < records s → rule2 s k ≡ false
  unfolding places holds
  known = quiet 2 (lit≤ tt) (lit< tt)

  sorted : (k : ℕ) → k < records s → rule3 s k ≡ false
  unfolding places holds
  sorted = quiet 3 (lit≤ tt) (lit< tt)

  pub few_kinds : many s 0 ≤ 10
  unfolding places holds rule4
  few_kinds = ltb-false 10 (many s 0) (or_neither (eqb (many s 0) 0) _ (quiet 4 (lit≤ tt) (lit< tt) 0 (lit< tt))).1

  some_vertex : 0 < many s 1
  unfolding places holds rule6
  some_vertex = omega (arith, eqb-false (many s 1) 0 (or_neither (eqb (many s 1) 0) (ltb 128 (many s 1)) (quiet 6 (lit≤ tt) (lit< tt) 0 (lit< tt))).0)

  pub few_vertices : many s 1 ≤ 128
  unfolding places holds rule6
  few_vertices = ltb-false 128 (many s 1) (or_neither (eqb (many s 1) 0) _ (quiet 6 (lit≤ tt) (lit< tt) 0 (lit< tt))).1

  pub few_edges : many s 2 ≤ 1024
  unfolding places holds rule8
  few_edges = ltb-false 1024 (many s 2) (quiet 8 (lit≤ tt) (lit< tt) 0 (lit< tt))

  -- ---- a type record

  record KindRow (k : ℕ) : Type 0 where
    some : 0 < byte_at s k 2
    few : byte_at s k 2 ≤ 16

  kind_row : (k : ℕ) → k < many s 0 → KindRow k
  unfolding places holds rule5
  kind_row k l =
      let b : k < records s = omega (arith, all_fit s) in
      let h = rw (kind-record s sorted k b l) at (quiet 5 (lit≤ tt) (lit< tt) k b) in
      let x = or_neither (not (eqb (byte_at s k 1) _)) (eqb (byte_at s k 2) 0 || ltb 16 (byte_at s k 2)) h in
      let y = or_neither (eqb (byte_at s k 2) 0) (ltb 16 (byte_at s k 2)) x.1 in
      record { some = omega (arith, eqb-false (byte_at s k 2) 0 y.0); few = ltb-false 16 (byte_at s k 2) y.1 }

  cores-at : (k : ℕ) → k < many s 0 → get_or (graph_of s).cores k 0 ≡ byte_at s k 2
  unfolding graph_of column
  cores-at k l = let e : 0 + k ≡ k = omega arith in padded-at 10 (column s 0 2) (many s 0) k l ∙ ap (λ (i : ℕ). byte_at s i 2) e

  -- ---- a vertex record

  record VertexRow (k : ℕ) : Type 0 where
    declared : byte_at s k 2 < many s 0
    short : word_at s k ≤ 1000000

  vertex-row : (v : ℕ) → v < many s 1 → VertexRow (many s 0 + v)
  unfolding places holds rule7
  vertex-row v l =
      let k = many s 0 + v in
      let b : k < records s = omega (arith, all_fit s) in
      let h = rw (vertex-record s sorted k b (omega arith) (omega arith)) at (quiet 7 (lit≤ tt) (lit< tt) k b) in
      let x = or_neither (not (eqb (byte_at s k 1) _)) (leb (many s 0) (byte_at s k 2) || ltb 1000000 (word_at s k)) h in
      let y = or_neither (leb (many s 0) (byte_at s k 2)) (ltb 1000000 (word_at s k)) x.1 in
      record { declared = leb-false (many s 0) (byte_at s k 2) y.0; short = ltb-false 1000000 (word_at s k) y.1 }

  kind-at : (v : ℕ) → v < many s 1 → get_or (graph_of s).kind v 0 ≡ byte_at s (many s 0 + v) 2
  unfolding graph_of column
  kind-at v l = padded-at 128 (column s (many s 0) 2) (many s 1) v l

  wcet-at : (v : ℕ) → v < many s 1 → get_or (graph_of s).wcet v 0 ≡ word_at s (many s 0 + v)
  unfolding graph_of words
  wcet-at v l = padded-at 128 (words s (many s 0)) (many s 1) v l

  -- ---- an edge record

  edge_at : (i : ℕ) → i < many s 2 → order s (many s 0 + many s 1 + i) ≡ 2
  edge_at i l = edge-record s sorted known (many s 0 + many s 1 + i) (omega (arith, all_fit s)) (omega arith)

  record EdgeRow (k : ℕ) : Type 0 where
    from_declared : byte_at s k 1 < many s 1
    to_declared : byte_at s k 2 < many s 1

  edge_row : (i : ℕ) → i < many s 2 → EdgeRow (many s 0 + many s 1 + i)
  unfolding places holds rule9
  edge_row i l =
      let k = many s 0 + many s 1 + i in
      let h = rw (edge_at i l) at (quiet 9 (lit≤ tt) (lit< tt) k (omega (arith, all_fit s))) in
      let x = or_neither (leb (many s 1) (byte_at s k 1)) (leb (many s 1) (byte_at s k 2) || eqb (byte_at s k 1) (byte_at s k 2)) h in
      let y = or_neither (leb (many s 1) (byte_at s k 2)) (eqb (byte_at s k 1) (byte_at s k 2)) x.1 in
      record { from_declared = leb-false (many s 1) (byte_at s k 1) x.0; to_declared = leb-false (many s 1) (byte_at s k 2) y.0 }

  key-at : (i : ℕ) → i < many s 2 → get_or (graph_of s).edge i 0 ≡ key_at s (many s 0 + many s 1 + i)
  unfolding graph_of keys
  key-at i l = padded-at 1024 (keys s (many s 0 + many s 1)) (many s 2) i l

  pub from_at : (i : ℕ) → i < many s 2 → from (graph_of s) i ≡ byte_at s (many s 0 + many s 1 + i) 1
  unfolding from key_at
  from_at i l = rw (key-at i l) (omega (arith, bytes (8 * (many s 0 + many s 1 + i) + 2)))

  pub to_at : (i : ℕ) → i < many s 2 → to (graph_of s) i ≡ byte_at s (many s 0 + many s 1 + i) 2
  unfolding to key_at
  to_at i l = rw (key-at i l) (omega (arith, bytes (8 * (many s 0 + many s 1 + i) + 2)))

  pub from_known : (i : ℕ) → i < many s 2 → from (graph_of s) i < many s 1
  from_known i l = rw (from_at i l) (edge_row i l).from_declared

  pub to_known : (i : ℕ) → i < many s 2 → to (graph_of s) i < many s 1
  to_known i l = rw (to_at i l) (edge_row i l).to_declared

  pub ascending : (i : ℕ) → suc i < many s 2 → get_or (graph_of s).edge i 0 < get_or (graph_of s).edge (suc i) 0
  unfolding places holds rule10
  ascending i l =
      let j = many s 0 + many s 1 + i in
      let e : many s 0 + many s 1 + suc i ≡ suc j = omega arith in
      let d : suc j - 1 ≡ j = omega arith in
      let a : order s (suc j) ≡ 2 = rw e at (edge_at (suc i) l) in
      let b : order s j ≡ 2 = edge_at i (omega arith) in
      let h : leb (key_at s (suc j)) (key_at s j) ≡ false = simp (lt-ltb 0 (suc j) (omega arith), d, a, b) at (quiet 10 (lit≤ tt) (lit< tt) (suc j) (omega (arith, all_fit s))) in
      rw (key-at i (omega arith), key-at (suc i) l, e) (leb-false (key_at s (suc j)) (key_at s j) h)

  -- ---- the graph

  edge-found : (u v : ℕ) → Edge (as_model (graph_of s)) u v → (i : ℕ) × (i < many s 2) × (from (graph_of s) i ≡ u) × (to (graph_of s) i ≡ v)
  unfolding as_model joins graph_of
  edge-found u v e =
      let r = any_elim (joins (graph_of s) u v) (many s 2) e in
      let i = r.0 in
      (i, r.1, eqb-true (from (graph_of s) i) u (left-of (eqb (from (graph_of s) i) u) (eqb (to (graph_of s) i) v) r.2), eqb-true (to (graph_of s) i) v (right_of (eqb (from (graph_of s) i) u) (eqb (to (graph_of s) i) v) r.2))

  pub well_formed : WellFormed (as_model (graph_of s))
  unfolding as_model graph_of
  well_formed =
      record {
        some = some_vertex;
        from = λ u v e. let r = edge-found u v e in rw r.2 at (from_known r.0 r.1);
        to = λ u v e. let r = edge-found u v e in rw r.3 at (to_known r.0 r.1);
        kind_known = λ v l. rw (kind-at v l) (vertex-row v l).declared;
        some_core = λ k l. rw (cores-at k l) (kind_row k l).some;
        few_cores = λ k l. rw (cores-at k l) (kind_row k l).few;
      }

-- ---- where no number applies

module _ (s : List ℕ) (bytes : (i : ℕ) → get_or s i 0 < 256) (ok : judge_from 1 s ≡ Accepted) where
  none : (num : ℕ) → 1 ≤ num → num < 12 → (k : ℕ) → k < places s num → holds s num k ≡ false
  none num f l k d = none-holds 1 s ok num f l k d

  quiet : (num : ℕ) → 2 ≤ num → num < 11 → (k : ℕ) → k < places s num → holds s num k ≡ false
  quiet num f l k d = none num (omega arith) (omega arith) k d

  no_cycle : Acyclic (as_model (graph_of s))
  unfolding places holds rule11
  no_cycle = acyclic-test (well_formed s bytes quiet) (none 11 (lit≤ tt) (lit< tt) 0 (lit< tt))

  pub accepted : AcceptedGraph (graph_of s)
  unfolding graph_of
  accepted =
      record {
        few_kinds = few_kinds s bytes quiet;
        some_vertex = some_vertex s bytes quiet;
        few_vertices = few_vertices s bytes quiet;
        few_edges = few_edges s bytes quiet;
        well_formed = well_formed s bytes quiet;
        acyclic = no_cycle;
        short = λ v l. rw (wcet-at s bytes quiet v l) (vertex-row s bytes quiet v l).short;
        from_known = from_known s bytes quiet;
        to_known = to_known s bytes quiet;
        ascending = ascending s bytes quiet;
        kind_past = λ v l. padded-past 128 (column s (many s 0) 2) (many s 1) v l;
        wcet_past = λ v l. padded-past 128 (words s (many s 0)) (many s 1) v l;
      }

pub taken : (s : List ℕ) → ((i : ℕ) → get_or s i 0 < 256) → (read_of s).answer ≡ Accepted → AcceptedGraph (read_of s).graph
unfolding read_of
taken s bytes ok = rw ok (accepted s bytes ok)

pub refused_rightly : (s : List ℕ) (r : Refusal) → (read_of s).answer ≡ Refused r → Rightly 1 s r
unfolding read_of
refused_rightly s r h = rightly 1 s r h
