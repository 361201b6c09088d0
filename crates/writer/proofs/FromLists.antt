-- The file of a graph's lists holds those lists, and where no number from 4 on refuses it, none does.
use mathlib.Core.Path.{◌≡◌, refl, ap, ◌∙◌}
use mathlib.Core.Bool.{false}
use mathlib.Core.List.{List, ◌++◌}
use Prim.Native.Nat.{ℕ, ◌+◌, ◌-◌, ◌*◌, ◌%◌, ◌≤◌, ◌<◌}
use native.Mathlib.Decide.{ℕ_discrete}
use native.Mathlib.Omega.{arith}
use lib.ListN.{length, get_or, replicate}
use lib.Seq.{ext_get_or}
use lib.Dec.{lit<, lit≤}
use borrow.Author.Tests.{le-ltb, eq-eqb}
use Rattle.model.specs.Places.{table, padded}
use Rattle.model.proofs.Tables.{table-length, table_at}
use Rattle.graph.specs.File.{word_at, key_at, column, words, keys, graph_of}
use Rattle.graph.specs.Rules.{holds, places, rule1}
use Rattle.graph.specs.Judge.{judge_from}
use Rattle.graph.specs.Answer.{Accepted}
use Rattle.graph.proofs.Judging.{none-holds}
use Rattle.writer.specs.Lists.{Lists, filled, graph_from}
use Rattle.writer.specs.Write.{type_of, vertex_of, edge_of, file_of}
use Rattle.writer.specs.Image.{part}
use Rattle.writer.proofs.Acceptance.{all_quiet, few-types, few_vertices, few_edges}
use Rattle.graph.proofs.Orders.{parted-sorted}
use Rattle.writer.proofs.Part.{record_type, record-vertex, record-edge, part_length, part-byte, part-types, part-vertices, part-edges, file-part, known, parted}

-- ---- the lists

-- a table of a list's elements is the list, filled up as the list is
padded-filled : (n : ℕ) (f : ℕ → ℕ) (l : List ℕ) → ((i : ℕ) → i < length l → f i ≡ get_or l i 0) → padded n f (length l) ≡ filled n l
unfolding padded filled
padded-filled n f l h =
    let m : ℕ = length l in
    ap (λ (x : List ℕ). x ++ replicate (n - m) 0)
    (ext_get_or 0 (table f m) l (table-length f m) (λ i b. let c : i < m = rw (table-length f m) at b in table_at f m i c ∙ h i c))

module _ (g : Lists) (a b e : ℕ) where
  cores-back : (i : ℕ) → i < a → column (part g a b e) 0 2 i ≡ get_or g.cores i 0
  unfolding column type_of
  cores-back i l =
      let z : 0 + i ≡ i = omega arith in
      rw (z, part-byte g a b e i 2 (omega arith) (lit< tt), record_type g a b i l) refl

  kinds-back : (i : ℕ) → i < b → column (part g a b e) a 2 i ≡ get_or g.kinds i 0
  unfolding column vertex_of
  kinds-back i l =
      let z : (a + i) - a ≡ i = omega arith in
      rw (part-byte g a b e (a + i) 2 (omega arith) (lit< tt), record-vertex g a b (a + i) (omega arith) (omega arith), z) refl

  wcets-back : (i : ℕ) → i < b → words (part g a b e) a i ≡ get_or g.wcets i 0
  unfolding words word_at vertex_of
  wcets-back i l =
      let z : (a + i) - a ≡ i = omega arith in
      let h : a + i < a + b + e = omega arith in
      rw (part-byte g a b e (a + i) 4 h (lit< tt), part-byte g a b e (a + i) 5 h (lit< tt), part-byte g a b e (a + i) 6 h (lit< tt), part-byte g a b e (a + i) 7 h (lit< tt), record-vertex g a b (a + i) (omega arith) (omega arith), z)
      (omega arith)

  edges-back : (i : ℕ) → i < e → keys (part g a b e) (a + b) i ≡ get_or g.edges i 0
  unfolding keys key_at edge_of
  edges-back i l =
      let z : (a + b + i) - a - b ≡ i = omega arith in
      let h : a + b + i < a + b + e = omega arith in
      rw (part-byte g a b e (a + b + i) 1 h (lit< tt), part-byte g a b e (a + b + i) 2 h (lit< tt), record-edge g a b (a + b + i) (omega arith), z)
      (omega arith)

pub graph_back : (g : Lists) → length g.kinds ≡ length g.wcets → graph_of (file_of g) ≡ graph_from g
unfolding graph_of graph_from
graph_back g h =
    let a : ℕ = length g.cores in
    let b : ℕ = length g.kinds in
    let e : ℕ = length g.edges in
    let s = part g a b e in
    let w : padded 128 (words s a) b ≡ filled 128 g.wcets =
    ap (padded 128 (words s a)) h ∙ padded-filled 128 (words s a) g.wcets (λ i l. wcets-back g a b e i (omega arith)) in
    rw (
      file-part g,
      part-types g a b e,
      part-vertices g a b e,
      part-edges g a b e,
      padded-filled 10 (column s 0 2) g.cores (cores-back g a b e),
      padded-filled 128 (column s a 2) g.kinds (kinds-back g a b e),
      w,
      padded-filled 1024 (keys s (a + b)) g.edges (edges-back g a b e),
    ) refl

-- ---- the numbers below 4

module _ (g : Lists) (a b e : ℕ) where
  module _ (ok : judge_from 4 (part g a b e) ≡ Accepted) where
    short : rule1 (part g a b e) ≡ false
    unfolding rule1
    short =
        let s = part g a b e in
        let x = few-types s ok in
        let y = few_vertices s ok in
        let z = few_edges s ok in
        let n : length s ≡ 8 * (a + b + e) = part_length g a b e in
        let m : length s % 8 ≡ 0 = omega arith in
        let t : length s ≤ 9296 = omega (arith, part-types g a b e, part-vertices g a b e, part-edges g a b e) in
        rw (eq-eqb (length s % 8) 0 m, le-ltb 9296 (length s) t) refl

    none_of : (num : ℕ) → 1 ≤ num → num < 12 → (k : ℕ) → k < places (part g a b e) num → holds (part g a b e) num k ≡ false
    unfolding places holds
    none_of num f l = go (ℕ_discrete num 1) (ℕ_discrete num 2) (ℕ_discrete num 3)
      where
        go : Dec (num ≡ 1) → Dec (num ≡ 2) → Dec (num ≡ 3) → (k : ℕ) → k < places (part g a b e) num → holds (part g a b e) num k ≡ false
        go (yes x) y z = rw x (λ k h. short)
        go (no x) (yes y) z = rw y (known g a b e)
        go (no x) (no y) (yes z) = rw z (parted-sorted (parted g a b e))
        go (no x) (no y) (no z) = none-holds 4 (part g a b e) ok num (omega arith) l

    part-accepted : judge_from 1 (part g a b e) ≡ Accepted
    part-accepted = all_quiet 1 (part g a b e) (lit≤ tt) none_of

pub file-accepted : (g : Lists) → judge_from 4 (file_of g) ≡ Accepted → judge_from 1 (file_of g) ≡ Accepted
file-accepted g ok =
    rw (file-part g) (part-accepted g (length g.cores) (length g.kinds) (length g.edges) (rw (file-part g) at ok))
