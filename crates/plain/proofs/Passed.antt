-- A file that is passed to its end has no fault: the records are counted, and no number from 2 to 10 applies to one of them.
use mathlib.Core.Path.{◌≡◌, refl, sym, ap}
use mathlib.Core.Bool.{true, false, not, ◌&&◌}
use mathlib.Core.List.{List}
use Prim.Native.Nat.{ℕ, zero, suc, ◌+◌, ◌-◌, ◌≤◌, ◌<◌, min}
use native.Mathlib.Omega.{arith}
use native.Mathlib.Decide.{ℕ_discrete}
use native.Mathlib.Numerals.{add-one}
use lib.Dec.{eqb, ltb, leb}
use borrow.Author.Tests.{lt-ltb, le-ltb, ltb-true, leb-true, lt-leb, eq-eqb, ne_eqb, eqb-true, not-false}
use Rattle.model.specs.Places.{count}
use Rattle.model.proofs.Bools.{left-of, right_of, not-is-true}
use Rattle.model.proofs.Places.{first-le, first_below}
use Rattle.graph.specs.File.{records, byte_at, word_at, key_at, order, is_order, ordinal}
use Rattle.graph.specs.Rules.{holds, places, rule2, rule4, rule5, rule6, rule7, rule8, rule9, rule10}
use Rattle.graph.proofs.Orders.{Among, type, vertex, edge, among, Parted, types-before, vertices-before, many-types, many-vertices, many-edges, parted-sorted}
use Rattle.records.specs.Passing.{Counted}
use Rattle.records.specs.declared.Counts.{Counts}
use Rattle.plain.specs.Plain.{type_row_of, vertex_row_of, edge_row_of, least_key, edge_up, types_in, vertices_in, edges_in, plain_of, is_whole}

-- ---- what the three searches tell

pub types-few : (s : List ℕ) → (types_in s ≤ 10) × (types_in s ≤ records s)
unfolding types_in
types-few s = let h = first-le (λ k. not (type_row_of s k)) (min (records s) 10) in (omega (arith, h), omega (arith, h))

pub vertices-few : (s : List ℕ) (a : ℕ) → (vertices_in s a ≤ 128) × (vertices_in s a ≤ records s - a)
unfolding vertices_in
vertices-few s a = let h = first-le (λ v. not (vertex_row_of s a v)) (min (records s - a) 128) in (omega (arith, h), omega (arith, h))

edges_few : (s : List ℕ) (a n : ℕ) → (edges_in s a n ≤ 1024) × (edges_in s a n ≤ records s - a)
unfolding edges_in
edges_few s a n = let h = first-le (λ i. not (edge_up s a n i)) (min (records s - a) 1024) in (omega (arith, h), omega (arith, h))

pub plain-few : (s : List ℕ) (c : Counts) → c ≡ plain_of s → (c.kinds ≤ 10) × (c.n ≤ 128) × (c.edges ≤ 1024)
unfolding plain_of
plain-few s c e =
    let k : c.kinds ≡ types_in s = ap (λ (x : Counts). x.kinds) e in
    let n : c.n ≡ vertices_in s (types_in s) = ap (λ (x : Counts). x.n) e in
    let m : c.edges ≡ edges_in s (types_in s + vertices_in s (types_in s)) (vertices_in s (types_in s)) = ap (λ (x : Counts). x.edges) e in
    (omega (arith, k, (types-few s).0), omega (arith, n, (vertices-few s (types_in s)).0), omega (arith, m, (edges_few s (types_in s + vertices_in s (types_in s)) (vertices_in s (types_in s))).0))

pub least_more : (s : List ℕ) (a i : ℕ) → least_key s a (i + 1) ≡ key_at s (a + i) + 1
unfolding least_key
least_more s a i = ap (least_key s a) (add-one i)

-- ---- a record as it should be

module _ (s : List ℕ) where
  record TypeFacts (k : ℕ) : Type 0 where
    is : order s k ≡ 0
    number : byte_at s k 1 ≡ k
    some : 0 < byte_at s k 2
    few : byte_at s k 2 ≤ 16
    spare : byte_at s k 3 ≡ 0
    rest : word_at s k ≡ 0

  type-facts : (k : ℕ) → type_row_of s k ≡ true → TypeFacts k
  unfolding type_row_of order
  type-facts k t =
      let b = byte_at s k in
      let r1 = right_of (eqb (b 0) 0x54) _ t in
      let r2 = right_of (eqb (b 1) k) _ r1 in
      let r3 = right_of (ltb 0 (b 2)) _ r2 in
      let r4 = right_of (leb (b 2) 16) _ r3 in
      record {
        is = rw (eqb-true (b 0) 0x54 (left-of (eqb (b 0) 0x54) _ t)) refl;
        number = eqb-true (b 1) k (left-of (eqb (b 1) k) _ r1);
        some = ltb-true 0 (b 2) (left-of (ltb 0 (b 2)) _ r2);
        few = leb-true (b 2) 16 (left-of (leb (b 2) 16) _ r3);
        spare = eqb-true (b 3) 0 (left-of (eqb (b 3) 0) _ r4);
        rest = eqb-true (word_at s k) 0 (right_of (eqb (b 3) 0) _ r4);
      }

  record VertexFacts (a v : ℕ) : Type 0 where
    is : order s (a + v) ≡ 1
    number : byte_at s (a + v) 1 ≡ v
    declared : byte_at s (a + v) 2 < a
    spare : byte_at s (a + v) 3 ≡ 0
    short : word_at s (a + v) ≤ 1000000

  vertex-facts : (a v : ℕ) → vertex_row_of s a v ≡ true → VertexFacts a v
  unfolding vertex_row_of order
  vertex-facts a v t =
      let b = byte_at s (a + v) in
      let r1 = right_of (eqb (b 0) 0x56) _ t in
      let r2 = right_of (eqb (b 1) v) _ r1 in
      let r3 = right_of (ltb (b 2) a) _ r2 in
      record {
        is = rw (eqb-true (b 0) 0x56 (left-of (eqb (b 0) 0x56) _ t)) refl;
        number = eqb-true (b 1) v (left-of (eqb (b 1) v) _ r1);
        declared = ltb-true (b 2) a (left-of (ltb (b 2) a) _ r2);
        spare = eqb-true (b 3) 0 (left-of (eqb (b 3) 0) _ r3);
        short = leb-true (word_at s (a + v)) 1000000 (right_of (eqb (b 3) 0) _ r3);
      }

  record EdgeFacts (n k : ℕ) : Type 0 where
    is : order s k ≡ 2
    from_known : byte_at s k 1 < n
    to_known : byte_at s k 2 < n
    apart : eqb (byte_at s k 1) (byte_at s k 2) ≡ false
    spare : byte_at s k 3 ≡ 0
    rest : word_at s k ≡ 0

  edge-facts : (n k : ℕ) → edge_row_of s n k ≡ true → EdgeFacts n k
  unfolding edge_row_of order
  edge-facts n k t =
      let b = byte_at s k in
      let r1 = right_of (eqb (b 0) 0x45) _ t in
      let r2 = right_of (ltb (b 1) n) _ r1 in
      let r3 = right_of (ltb (b 2) n) _ r2 in
      let r4 = right_of (not (eqb (b 1) (b 2))) _ r3 in
      record {
        is = rw (eqb-true (b 0) 0x45 (left-of (eqb (b 0) 0x45) _ t)) refl;
        from_known = ltb-true (b 1) n (left-of (ltb (b 1) n) _ r1);
        to_known = ltb-true (b 2) n (left-of (ltb (b 2) n) _ r2);
        apart = not-is-true (eqb (b 1) (b 2)) (left-of (not (eqb (b 1) (b 2))) _ r3);
        spare = eqb-true (b 3) 0 (left-of (eqb (b 3) 0) _ r4);
        rest = eqb-true (word_at s k) 0 (right_of (eqb (b 3) 0) _ r4);
      }

is-next : (x num : ℕ) → x ≤ num → (num ≡ x → ⊥) → x + 1 ≤ num
is-next x num l h = omega arith

is_ten : (num : ℕ) → 2 ≤ num → num < 11 → (num ≡ 2 → ⊥) → (num ≡ 3 → ⊥) → (num ≡ 4 → ⊥) → (num ≡ 5 → ⊥) → (num ≡ 6 → ⊥) → (num ≡ 7 → ⊥) → (num ≡ 8 → ⊥) → (num ≡ 9 → ⊥) → num ≡ 10
is_ten num f l a b c d e g h i = between num (is-next 9 num (is-next 8 num (is-next 7 num (is-next 6 num (is-next 5 num (is-next 4 num (is-next 3 num (is-next 2 num f a) b) c) d) e) g) h) i) l
  where
    between : (x : ℕ) → 10 ≤ x → x < 11 → x ≡ 10
    between x p q = omega arith

-- ---- where the records that are passed are all there are

module _ (s : List ℕ) (c : Counts) (is : c ≡ plain_of s) (end : is_whole s c ≡ true) where
  abbrev a : ℕ
  a = c.kinds

  abbrev n : ℕ
  n = c.n

  abbrev m : ℕ
  m = c.edges

  all : records s ≡ a + n + m
  unfolding is_whole
  all = sym (eqb-true (a + n + m) (records s) (right_of (not (eqb n 0)) _ (right_of (not (eqb a 0)) _ end)))

  types : (k : ℕ) → k < a → TypeFacts s k
  unfolding plain_of types_in
  types k l =
      let e : a ≡ types_in s = ap (λ (x : Counts). x.kinds) is in
      type-facts s k (not-false (type_row_of s k) (first_below (λ k. not (type_row_of s k)) (min (records s) 10) k (omega (arith, e))))

  vertices : (v : ℕ) → v < n → VertexFacts s a v
  unfolding plain_of vertices_in
  vertices v l =
      let e : a ≡ types_in s = ap (λ (x : Counts). x.kinds) is in
      let f : n ≡ vertices_in s (types_in s) = ap (λ (x : Counts). x.n) is in
      rw e (vertex-facts s (types_in s) v (not-false (vertex_row_of s (types_in s) v) (first_below (λ v. not (vertex_row_of s (types_in s) v)) (min (records s - types_in s) 128) v (omega (arith, f)))))

  up : (i : ℕ) → i < m → edge_up s (a + n) n i ≡ true
  unfolding plain_of edges_in
  up i l =
      let e : a ≡ types_in s = ap (λ (x : Counts). x.kinds) is in
      let f : n ≡ vertices_in s (types_in s) = ap (λ (x : Counts). x.n) is in
      let g : m ≡ edges_in s (types_in s + vertices_in s (types_in s)) (vertices_in s (types_in s)) = ap (λ (x : Counts). x.edges) is in
      rw (e, f) (not-false (edge_up s (types_in s + vertices_in s (types_in s)) (vertices_in s (types_in s)) i) (first_below (λ i. not (edge_up s (types_in s + vertices_in s (types_in s)) (vertices_in s (types_in s)) i)) (min (records s - (types_in s + vertices_in s (types_in s))) 1024) i (omega (arith, g))))

  edges : (i : ℕ) → i < m → EdgeFacts s n (a + n + i)
  unfolding edge_up
  edges i l = edge-facts s n (a + n + i) (left-of (edge_row_of s n (a + n + i)) _ (up i l))

  rising : (i : ℕ) → suc i < m → key_at s (a + n + i) < key_at s (a + n + suc i)
  unfolding edge_up least_key
  rising i l = omega (arith, leb-true (key_at s (a + n + i) + 1) (key_at s (a + n + suc i)) (right_of (edge_row_of s n (a + n + suc i)) _ (up (suc i) l)))

  edges-from : (k : ℕ) → a + n ≤ k → k < a + n + m → EdgeFacts s n k
  edges-from k h l = let e : a + n + (k - (a + n)) ≡ k = omega arith in rw e at (edges (k - (a + n)) (omega arith))

  vertices-from : (k : ℕ) → a ≤ k → k < a + n → VertexFacts s a (k - a)
  vertices-from k h l = vertices (k - a) (omega arith)

  parted : Parted s a n m
  parted = record {
    all = all;
    types = λ k l. (types k l).is;
    vertices = λ k h l. let e : a + (k - a) ≡ k = omega arith in rw e at (vertices-from k h l).is;
    edges = λ k h l. (edges-from k h l).is;
  }

  pub counted : Counted s c
  counted = record { all_kinds = sym (many-types parted); all_vertices = sym (many-vertices parted); all_edges = sym (many-edges parted) }

  -- ---- no row of the table holds

  some-kind : eqb a 0 ≡ false
  unfolding is_whole
  some-kind = not-is-true (eqb a 0) (left-of (not (eqb a 0)) _ end)

  some_vertex : eqb n 0 ≡ false
  unfolding is_whole
  some_vertex = not-is-true (eqb n 0) (left-of (not (eqb n 0)) _ (right_of (not (eqb a 0)) _ end))

  few : (a ≤ 10) × (n ≤ 128) × (m ≤ 1024)
  few = plain-few s c is

  row-2 : (k : ℕ) → k < records s → rule2 s k ≡ false
  unfolding rule2
  row-2 k l = go (among a n k)
    where
      go : Among a n k → rule2 s k ≡ false
      go (type x) = let t = types k x in rw (t.is, t.spare, t.rest) refl
      go (vertex x y) =
          let e : a + (k - a) ≡ k = omega arith in
          let t = vertices-from k x y in
          let o : order s k ≡ 1 = rw e at t.is in
          let z : byte_at s k 3 ≡ 0 = rw e at t.spare in
          rw (o, z) refl
      go (edge x) = let t = edges-from k x (omega (arith, all)) in rw (t.is, t.spare, t.rest) refl

  row-4 : rule4 s ≡ false
  unfolding rule4
  row-4 = rw (many-types parted, some-kind, le-ltb 10 a few.0) refl

  row-5 : (k : ℕ) → k < records s → rule5 s k ≡ false
  unfolding rule5 ordinal
  row-5 k l = go (among a n k)
    where
      go : Among a n k → rule5 s k ≡ false
      go (type x) =
          let t = types k x in
          rw (t.is, types-before parted k (omega arith), eq-eqb (byte_at s k 1) k t.number, ne_eqb (byte_at s k 2) 0 (λ e. omega (arith, t.some, e)), le-ltb 16 (byte_at s k 2) t.few) refl
      go (vertex x y) = rw (parted.vertices k x y) refl
      go (edge x) = rw (parted.edges k x (omega (arith, all))) refl

  row-6 : rule6 s ≡ false
  unfolding rule6
  row-6 = rw (many-vertices parted, some_vertex, le-ltb 128 n few.1) refl

  row-7 : (k : ℕ) → k < records s → rule7 s k ≡ false
  unfolding rule7 ordinal
  row-7 k l = go (among a n k)
    where
      go : Among a n k → rule7 s k ≡ false
      go (type x) = rw (parted.types k x) refl
      go (vertex x y) =
          let e : a + (k - a) ≡ k = omega arith in
          let t = vertices-from k x y in
          let b : count (is_order s 1) k ≡ k - a = rw e at (vertices-before parted (k - a) (omega arith)) in
          let u : byte_at s k 1 ≡ k - a = rw e at t.number in
          let d : byte_at s k 2 < a = rw e at t.declared in
          let w : word_at s k ≤ 1000000 = rw e at t.short in
          rw (parted.vertices k x y, b, eq-eqb (byte_at s k 1) (k - a) u, many-types parted, lt-leb a (byte_at s k 2) d, le-ltb 1000000 (word_at s k) w) refl
      go (edge x) = rw (parted.edges k x (omega (arith, all))) refl

  row-8 : rule8 s ≡ false
  unfolding rule8
  row-8 = rw (many-edges parted) (le-ltb 1024 m few.2)

  row-9 : (k : ℕ) → k < records s → rule9 s k ≡ false
  unfolding rule9
  row-9 k l = go (among a n k)
    where
      go : Among a n k → rule9 s k ≡ false
      go (type x) = rw (parted.types k x) refl
      go (vertex x y) = rw (parted.vertices k x y) refl
      go (edge x) =
          let t = edges-from k x (omega (arith, all)) in
          rw (t.is, many-vertices parted, lt-leb n (byte_at s k 1) t.from_known, lt-leb n (byte_at s k 2) t.to_known, t.apart) refl

  row-10 : (k : ℕ) → k < records s → rule10 s k ≡ false
  unfolding rule10
  row-10 zero l = rw (le-ltb 0 0 (omega arith)) refl
  row-10 (suc k) l = let e : suc k - 1 ≡ k = omega arith in rw (e, lt-ltb 0 (suc k) (omega arith)) (go (among a n (suc k)) (among a n k))
    where
      go : Among a n (suc k) → Among a n k → eqb (order s (suc k)) 2 && (eqb (order s k) 2 && leb (key_at s (suc k)) (key_at s k)) ≡ false
      go (type x) y = rw (parted.types (suc k) x) refl
      go (vertex x z) y = rw (parted.vertices (suc k) x z) refl
      go (edge x) (type y) = rw (parted.edges (suc k) x (omega (arith, all)), parted.types k y) refl
      go (edge x) (vertex y z) = rw (parted.edges (suc k) x (omega (arith, all)), parted.vertices k y z) refl
      go (edge x) (edge y) =
          let i : ℕ = k - (a + n) in
          let p : a + n + i ≡ k = omega arith in
          let q : a + n + suc i ≡ suc k = omega arith in
          let r : key_at s k < key_at s (suc k) = rw (p, q) at (rising i (omega (arith, all))) in
          rw (parted.edges (suc k) x (omega (arith, all)), parted.edges k y (omega (arith, all)), lt-leb (key_at s (suc k)) (key_at s k) r) refl

  -- THEOREM. No number from 2 to 10 holds for any place.
  pub quiet : (num : ℕ) → 2 ≤ num → num < 11 → (k : ℕ) → k < places s num → holds s num k ≡ false
  unfolding holds places
  quiet num f l = go (ℕ_discrete num 2) (ℕ_discrete num 3) (ℕ_discrete num 4) (ℕ_discrete num 5) (ℕ_discrete num 6) (ℕ_discrete num 7) (ℕ_discrete num 8) (ℕ_discrete num 9)
    where
      go : Dec (num ≡ 2) → Dec (num ≡ 3) → Dec (num ≡ 4) → Dec (num ≡ 5) → Dec (num ≡ 6) → Dec (num ≡ 7) → Dec (num ≡ 8) → Dec (num ≡ 9)
          → (k : ℕ) → k < places s num → holds s num k ≡ false
      go (yes e) x3 x4 x5 x6 x7 x8 x9 = rw e row-2
      go (no x2) (yes e) x4 x5 x6 x7 x8 x9 = rw e (parted-sorted parted)
      go (no x2) (no x3) (yes e) x5 x6 x7 x8 x9 = rw e (λ k h. row-4)
      go (no x2) (no x3) (no x4) (yes e) x6 x7 x8 x9 = rw e row-5
      go (no x2) (no x3) (no x4) (no x5) (yes e) x7 x8 x9 = rw e (λ k h. row-6)
      go (no x2) (no x3) (no x4) (no x5) (no x6) (yes e) x8 x9 = rw e row-7
      go (no x2) (no x3) (no x4) (no x5) (no x6) (no x7) (yes e) x9 = rw e (λ k h. row-8)
      go (no x2) (no x3) (no x4) (no x5) (no x6) (no x7) (no x8) (yes e) = rw e row-9
      go (no x2) (no x3) (no x4) (no x5) (no x6) (no x7) (no x8) (no x9) = rw (is_ten num f l x2 x3 x4 x5 x6 x7 x8 x9) row-10
