-- The numbers that say no to a file, 1 to 11, each a row of document 01's table as it stands there; row 12 went with order 3. `s` is the
-- file's bytes, k a record.
--
--   rule1 s .. rule11 s     the row's "given exactly when", of the whole file or of a record
--   holds s num k           the row of number num holds for the place k
--   places s num            how many places num is tested for: the records, or place 0 alone
use Rattle.std.specs.Prelude.{Bool, not, ◌&&◌, ◌||◌, List, ℕ, ◌-◌, ◌%◌, length, eqb, ltb, leb}
use Rattle.model.specs.Places.{pick, any}
use Rattle.model.specs.Cycle.{cyclic}
use Rattle.graph.specs.File.{records, byte_at, word_at, key_at, order, many, ordinal, graph_of}
use Rattle.graph.specs.Model.{as_model}

-- length not a multiple of 8, or above 9,296 bytes
unfoldable pub rule1 : List ℕ → Bool
rule1 s = not (eqb (length s % 8) 0) || ltb 9296 (length s)

-- byte 0 of no known kind, or a byte shown as 0 isn't 0: byte 3, and bytes 4 to 7 of all but a vertex
unfoldable pub rule2 : List ℕ → ℕ → Bool
rule2 s k = eqb (order s k) 3 || (not (eqb (byte_at s k 3) 0) || (not (eqb (order s k) 1) && not (eqb (word_at s k) 0)))

-- type record after a vertex or edge, or vertex record after an edge
unfoldable pub rule3 : List ℕ → ℕ → Bool
rule3 s k = any (λ j. ltb (order s k) (order s j)) k

-- no type, or more than 10
unfoldable pub rule4 : List ℕ → Bool
rule4 s = eqb (many s 0) 0 || ltb 10 (many s 0)

-- type number isn't its place, or cores outside 1 to 16
unfoldable pub rule5 : List ℕ → ℕ → Bool
rule5 s k = eqb (order s k) 0 && (not (eqb (byte_at s k 1) (ordinal s k)) || (eqb (byte_at s k 2) 0 || ltb 16 (byte_at s k 2)))

-- no vertex, or more than 128
unfoldable pub rule6 : List ℕ → Bool
rule6 s = eqb (many s 1) 0 || ltb 128 (many s 1)

-- vertex number isn't its place, type undeclared, or WCET above 1,000,000
unfoldable pub rule7 : List ℕ → ℕ → Bool
rule7 s k =
    eqb (order s k) 1
    && (not (eqb (byte_at s k 1) (ordinal s k)) || (leb (many s 0) (byte_at s k 2) || ltb 1000000 (word_at s k)))

-- more than 1,024 edges
unfoldable pub rule8 : List ℕ → Bool
rule8 s = ltb 1024 (many s 2)

-- an edge end undeclared, or from equals to
unfoldable pub rule9 : List ℕ → ℕ → Bool
rule9 s k =
    eqb (order s k) 2
    && (leb (many s 1) (byte_at s k 1) || (leb (many s 1) (byte_at s k 2) || eqb (byte_at s k 1) (byte_at s k 2)))

-- an edge not above the one before it
unfoldable pub rule10 : List ℕ → ℕ → Bool
rule10 s k = ltb 0 k && (eqb (order s k) 2 && (eqb (order s (k - 1)) 2 && leb (key_at s k) (key_at s (k - 1))))

-- the edges hold a cycle
unfoldable pub rule11 : List ℕ → Bool
rule11 s = cyclic (as_model (graph_of s))

unfoldable pub holds : List ℕ → ℕ → ℕ → Bool
holds s num k =
    pick (eqb num 2) (rule2 s k)
    (pick (eqb num 3) (rule3 s k)
    (pick (eqb num 4) (rule4 s)
    (pick (eqb num 5) (rule5 s k)
    (pick (eqb num 6) (rule6 s)
    (pick (eqb num 7) (rule7 s k)
    (pick (eqb num 8) (rule8 s)
    (pick (eqb num 9) (rule9 s k)
    (pick (eqb num 10) (rule10 s k) (pick (eqb num 11) (rule11 s) (rule1 s))))))))))

abbrev pub per_record_of : ℕ → Bool
per_record_of num = eqb num 2 || (eqb num 3 || (eqb num 5 || (eqb num 7 || (eqb num 9 || eqb num 10))))

unfoldable pub places : List ℕ → ℕ → ℕ
places s num = pick (per_record_of num) (records s) 1
