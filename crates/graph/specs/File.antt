-- The records of a graph file (document 01, "The file"), and the lists that they hold. `s` is the file's bytes.
--
--   records s            how many records of 8 bytes there are
--   byte_at s k j         byte j of record k
--   word_at s k           bytes 4 to 7 of record k, low byte first
--   key_at s k            an edge's two ends as one number, from × 256 + to
--   order s k            0 for a type record, 1 for a vertex, 2 for an edge, 3 for no known kind
--   many s r             how many records there are of the order r
--   ordinal s k          record k's place among its kind
--   graph_of s            counts and lists of the file, unused places zero
--   no_graph_of              zero throughout: what stands beside a refusal
use Rattle.std.specs.Prelude.{Bool, List, ℕ, ◌+◌, ◌*◌, ◌/◌, length, get_or, replicate, eqb}
use Rattle.model.specs.Places.{pick, count, padded}
use Rattle.graph.specs.declared.Graph.{Graph}

abbrev pub records : List ℕ → ℕ
records s = length s / 8

abbrev pub byte_at : List ℕ → ℕ → ℕ → ℕ
byte_at s k j = get_or s (8 * k + j) 0

unfoldable pub word_at : List ℕ → ℕ → ℕ
word_at s k = byte_at s k 4 + 256 * byte_at s k 5 + 65536 * byte_at s k 6 + 16777216 * byte_at s k 7

unfoldable pub key_at : List ℕ → ℕ → ℕ
key_at s k = 256 * byte_at s k 1 + byte_at s k 2

-- type, vertex and edge records begin with 54, 56 and 45 hex
abbrev pub order_of : ℕ → ℕ
order_of b = pick (eqb b 0x54) 0 (pick (eqb b 0x56) 1 (pick (eqb b 0x45) 2 3))

unfoldable pub order : List ℕ → ℕ → ℕ
order s k = order_of (byte_at s k 0)

unfoldable pub is_order : List ℕ → ℕ → ℕ → Bool
is_order s r k = eqb (order s k) r

unfoldable pub many : List ℕ → ℕ → ℕ
many s r = count (is_order s r) (records s)

unfoldable pub ordinal : List ℕ → ℕ → ℕ
ordinal s k = count (is_order s (order s k)) k

-- byte j, bytes 4 to 7, and the ends, of the records from base on
unfoldable pub column : List ℕ → ℕ → ℕ → ℕ → ℕ
column s base j i = byte_at s (base + i) j

unfoldable pub words : List ℕ → ℕ → ℕ → ℕ
words s base i = word_at s (base + i)

unfoldable pub keys : List ℕ → ℕ → ℕ → ℕ
keys s base i = key_at s (base + i)

unfoldable pub graph_of : List ℕ → Graph
graph_of s = record {
  kinds = many s 0;
  n = many s 1;
  edges = many s 2;
  cores = padded 10 (column s 0 2) (many s 0);
  kind = padded 128 (column s (many s 0) 2) (many s 1);
  wcet = padded 128 (words s (many s 0)) (many s 1);
  edge = padded 1024 (keys s (many s 0 + many s 1)) (many s 2);
}

unfoldable pub no_graph_of : Graph
no_graph_of = record {
  kinds = 0;
  n = 0;
  edges = 0;
  cores = replicate 10 0;
  kind = replicate 128 0;
  wcet = replicate 128 0;
  edge = replicate 1024 0;
}
