-- The file of the first a types, b vertices and e edges of a graph's lists: its records, their orders, and how many there are.
use mathlib.Core.Path.{◌≡◌, refl, sym, ap, ◌∙◌}
use mathlib.Core.Bool.{Bool, true, false}
use mathlib.Core.List.{List, ◌++◌}
use Prim.Native.Nat.{ℕ, ◌+◌, ◌-◌, ◌*◌, ◌≤◌, ◌<◌}
use native.Mathlib.Omega.{arith}
use native.Mathlib.Decide.{ℕ_discrete}
use lib.ListN.{length, get_or}
use lib.Dec.{ltb, lit<}
use borrow.Author.Tests.{lt-ltb, le-ltb}
use Rattle.model.specs.Places.{pick}
use Rattle.graph.specs.File.{records, byte_at, word_at, order, many}
use Rattle.graph.specs.Rules.{holds, places, rule2}
use Rattle.graph.specs.Judge.{applies}
use Rattle.graph.proofs.Judging.{not_for_any}
use Rattle.graph.proofs.Orders.{Among, type, vertex, edge, among, Parted, many-types, many-vertices, many-edges, parted-sorted}
use Rattle.writer.specs.Lists.{Lists}
use Rattle.writer.specs.Write.{type_of, vertex_of, edge_of, joined, file_of}
use Rattle.writer.specs.Image.{record_at_of, part}
use Rattle.writer.proofs.Joined.{joined-append, joined_length, joined_at}

module _ (g : Lists) (a b : ℕ) where
  pub record-length : (k : ℕ) → length (record_at_of g a b k) ≡ 8
  unfolding record_at_of type_of vertex_of edge_of
  record-length k = go (ltb k a) (ltb (k - a) b)
    where
      go : (x y : Bool) → length (pick x (type_of g k) (pick y (vertex_of g (k - a)) (edge_of g (k - a - b)))) ≡ 8
      go true y = refl
      go false true = refl
      go false false = refl

  pub record_type : (k : ℕ) → k < a → record_at_of g a b k ≡ type_of g k
  unfolding record_at_of
  record_type k l = rw (lt-ltb k a l) refl

  pub record-vertex : (k : ℕ) → a ≤ k → k < a + b → record_at_of g a b k ≡ vertex_of g (k - a)
  unfolding record_at_of
  record-vertex k h l = rw (le-ltb k a h, lt-ltb (k - a) b (omega arith)) refl

  pub record-edge : (k : ℕ) → a + b ≤ k → record_at_of g a b k ≡ edge_of g (k - a - b)
  unfolding record_at_of
  record-edge k h = rw (le-ltb k a (omega arith), le-ltb (k - a) b (omega arith)) refl

  module _ (e : ℕ) where
    pub part_length : length (part g a b e) ≡ 8 * (a + b + e)
    unfolding part
    part_length = joined_length (record_at_of g a b) record-length (a + b + e)

    pub part-records : records (part g a b e) ≡ a + b + e
    part-records = omega (arith, part_length)

    pub part-byte : (k j : ℕ) → k < a + b + e → j < 8 → byte_at (part g a b e) k j ≡ get_or (record_at_of g a b k) j 0
    unfolding part
    part-byte k j l h = joined_at (record_at_of g a b) record-length (a + b + e) k j l h

    pub parted : Parted (part g a b e) a b e
    unfolding order type_of vertex_of edge_of
    parted = record {
      all = part-records;
      types = λ k l. rw (part-byte k 0 (omega arith) (lit< tt), record_type k l) refl;
      vertices = λ k h l. rw (part-byte k 0 (omega arith) (lit< tt), record-vertex k h l) refl;
      edges = λ k h l. rw (part-byte k 0 l (lit< tt), record-edge k h) refl;
    }

    pub part-types : many (part g a b e) 0 ≡ a
    part-types = many-types parted

    pub part-vertices : many (part g a b e) 1 ≡ b
    part-vertices = many-vertices parted

    pub part-edges : many (part g a b e) 2 ≡ e
    part-edges = many-edges parted

-- the numbers 2 and 3 apply to no such file
module _ (g : Lists) (a b e : ℕ) where
  zero-byte : (k : ℕ) → k < a + b + e → byte_at (part g a b e) k 3 ≡ 0
  unfolding type_of vertex_of edge_of
  zero-byte k l = part-byte g a b e k 3 l (lit< tt) ∙ go (among a b k)
    where
      go : Among a b k → get_or (record_at_of g a b k) 3 0 ≡ 0
      go (type x) = rw (record_type g a b k x) refl
      go (vertex x y) = rw (record-vertex g a b k x y) refl
      go (edge x) = rw (record-edge g a b k x) refl

  type-word : (k : ℕ) → k < a → word_at (part g a b e) k ≡ 0
  unfolding word_at type_of
  type-word k l =
      let h : k < a + b + e = omega arith in
      rw (part-byte g a b e k 4 h (lit< tt), part-byte g a b e k 5 h (lit< tt), part-byte g a b e k 6 h (lit< tt), part-byte g a b e k 7 h (lit< tt), record_type g a b k l) refl

  edge-word : (k : ℕ) → a + b ≤ k → k < a + b + e → word_at (part g a b e) k ≡ 0
  unfolding word_at edge_of
  edge-word k m h =
      rw (part-byte g a b e k 4 h (lit< tt), part-byte g a b e k 5 h (lit< tt), part-byte g a b e k 6 h (lit< tt), part-byte g a b e k 7 h (lit< tt), record-edge g a b k m) refl

  pub known : (k : ℕ) → k < records (part g a b e) → rule2 (part g a b e) k ≡ false
  unfolding rule2
  known k l = go (among a b k) (omega (arith, part-records g a b e))
    where
      go : Among a b k → k < a + b + e → rule2 (part g a b e) k ≡ false
      go (type x) h = rw ((parted g a b e).types k x, zero-byte k h, type-word k x) refl
      go (vertex x y) h = rw ((parted g a b e).vertices k x y, zero-byte k h) refl
      go (edge x) h = rw ((parted g a b e).edges k x h, zero-byte k h, edge-word k x h) refl

  pub part-quiet : (j : ℕ) → 2 ≤ j → j < 4 → applies (part g a b e) j ≡ false
  unfolding places holds
  part-quiet j f l = go (ℕ_discrete j 2)
    where
      go : Dec (j ≡ 2) → applies (part g a b e) j ≡ false
      go (yes q) = rw q (not_for_any (part g a b e) 2 known)
      go (no q) = let t : j ≡ 3 = omega arith in rw t (not_for_any (part g a b e) 3 (parted-sorted (parted g a b e)))

-- the part of all of them is the file
pub file-part : (g : Lists) → file_of g ≡ part g (length g.cores) (length g.kinds) (length g.edges)
unfolding file_of part record_at_of
file-part g =
    let a : ℕ = length g.cores in
    let b : ℕ = length g.kinds in
    let e : ℕ = length g.edges in
    let x : a + b + e ≡ a + (b + e) = omega arith in
    ap (λ (r : List ℕ). joined (type_of g) a ++ r) (joined-append (vertex_of g) (edge_of g) b e)
    ∙ (joined-append (type_of g) (λ k. pick (ltb k b) (vertex_of g k) (edge_of g (k - b))) a (b + e) ∙ ap (joined (record_at_of g a b)) (sym x))
