-- What mending keeps. `s` is a file's bytes, k a record of it.
--
--   KeptEdge s k      an edge, not from a vertex to itself, and the first with its ends
--   Standing s k      record k stands in the mended file: at its place every byte is as it was, but for those that must be 0, which are 0
--   Untouched s k     it has all its bytes, and an edge its place among the kept edges
--   Found s k i       record i of the mended file is an edge with the ends of record k
--   Above s i j       the edge i comes before the edge j: a lesser from, or the same from and a lesser to
use Rattle.std.specs.Prelude.{◌≡◌, ◌⊎◌, true, false, List, ℕ, ◌<◌}
use Rattle.graph.specs.File.{records, byte_at}
use Rattle.mends.specs.Mends.{must_be_zero_of, is_edge, seat, rank}
use Rattle.mends.specs.Mended.{place, mended_of}

pub record KeptEdge (s : List ℕ) (k : ℕ) : Type 0 where
  pub edge : is_edge s k ≡ true
  pub apart : byte_at s k 1 ≡ byte_at s k 2 → ⊥
  pub first : (j : ℕ) → j < k → is_edge s j ≡ true → byte_at s j 1 ≡ byte_at s k 1 → byte_at s j 2 ≡ byte_at s k 2 → ⊥

pub record Standing (s : List ℕ) (k : ℕ) : Type 0 where
  pub within : place s k < records (mended_of s)
  pub bytes : (j : ℕ) → j < 8 → must_be_zero_of s k j ≡ false → byte_at (mended_of s) (place s k) j ≡ byte_at s k j
  pub zeros : (j : ℕ) → j < 8 → must_be_zero_of s k j ≡ true → byte_at (mended_of s) (place s k) j ≡ 0

pub record Untouched (s : List ℕ) (k : ℕ) : Type 0 where
  pub bytes : (j : ℕ) → j < 8 → byte_at (mended_of s) (place s k) j ≡ byte_at s k j
  pub among_kept : is_edge s k ≡ true → rank s k ≡ seat s k

pub record Found (s : List ℕ) (k i : ℕ) : Type 0 where
  pub within : i < records (mended_of s)
  pub edge : is_edge (mended_of s) i ≡ true
  pub from : byte_at (mended_of s) i 1 ≡ byte_at s k 1
  pub to : byte_at (mended_of s) i 2 ≡ byte_at s k 2

abbrev pub Above : List ℕ → ℕ → ℕ → Type 0
Above s i j = (byte_at s i 1 < byte_at s j 1) ⊎ ((byte_at s i 1 ≡ byte_at s j 1) × (byte_at s i 2 < byte_at s j 2))
