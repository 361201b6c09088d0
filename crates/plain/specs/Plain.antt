-- For our own layers alone: no contract for callers and no claim cites this file.
--
-- Records as they should be, each seen by itself, and how many of them stand one after another.
--
--   type_row_of s k           record k is the type k, of 1 to 16 cores
--   vertex_row_of s a v       record a + v is the vertex v, of one of a types, with a WCET up to 1,000,000
--   edge_row_of s n k         record k is an edge between two of n vertices
--   least_key s a i        what the i-th edge from record a on has to reach, to be above the one before it
--   types_in s             how many types stand first
--   vertices_in s a        how many vertices stand after a types
--   edges_in s a n         how many edges stand from record a on, each above the one before it
--   plain_of s             all three
--   is_whole s c           c are all the records of s, with a type and a vertex among them
use Rattle.std.specs.Prelude.{Bool, not, ◌&&◌, List, ℕ, zero, suc, ◌+◌, ◌-◌, min, eqb, ltb, leb}
use Rattle.model.specs.Places.{first}
use Rattle.graph.specs.File.{records, byte_at, word_at, key_at}
use Rattle.records.specs.declared.Counts.{Counts}

unfoldable pub type_row_of : List ℕ → ℕ → Bool
type_row_of s k =
    eqb (byte_at s k 0) 0x54
    && (eqb (byte_at s k 1) k && (ltb 0 (byte_at s k 2) && (leb (byte_at s k 2) 16 && (eqb (byte_at s k 3) 0 && eqb (word_at s k) 0))))

unfoldable pub vertex_row_of : List ℕ → ℕ → ℕ → Bool
vertex_row_of s a v =
    eqb (byte_at s (a + v) 0) 0x56
    && (eqb (byte_at s (a + v) 1) v && (ltb (byte_at s (a + v) 2) a && (eqb (byte_at s (a + v) 3) 0 && leb (word_at s (a + v)) 1000000)))

unfoldable pub edge_row_of : List ℕ → ℕ → ℕ → Bool
edge_row_of s n k =
    eqb (byte_at s k 0) 0x45
    && (ltb (byte_at s k 1) n && (ltb (byte_at s k 2) n && (not (eqb (byte_at s k 1) (byte_at s k 2)) && (eqb (byte_at s k 3) 0 && eqb (word_at s k) 0))))

unfoldable pub least_key : List ℕ → ℕ → ℕ → ℕ
least_key s a zero = 0
least_key s a (suc i) = key_at s (a + i) + 1

unfoldable pub edge_up : List ℕ → ℕ → ℕ → ℕ → Bool
edge_up s a n i = edge_row_of s n (a + i) && leb (least_key s a i) (key_at s (a + i))

unfoldable pub types_in : List ℕ → ℕ
types_in s = first (λ k. not (type_row_of s k)) (min (records s) 10)

unfoldable pub vertices_in : List ℕ → ℕ → ℕ
vertices_in s a = first (λ v. not (vertex_row_of s a v)) (min (records s - a) 128)

unfoldable pub edges_in : List ℕ → ℕ → ℕ → ℕ
edges_in s a n = first (λ i. not (edge_up s a n i)) (min (records s - a) 1024)

unfoldable pub plain_of : List ℕ → Counts
plain_of s = record {
  kinds = types_in s;
  n = vertices_in s (types_in s);
  edges = edges_in s (types_in s + vertices_in s (types_in s)) (vertices_in s (types_in s));
}

unfoldable pub is_whole : List ℕ → Counts → Bool
is_whole s c = not (eqb c.kinds 0) && (not (eqb c.n 0) && eqb (c.kinds + c.n + c.edges) (records s))
