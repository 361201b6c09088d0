-- For our own layers alone: no contract for callers and no claim cites this file.
--
-- The edge list, as the code makes it.
--
--   FULL                   one edge more than is allowed: no more are kept, since they would be refused all the same
--   Listed xs many list    the list has the edges xs at its front, up to that many
use Rattle.std.specs.Prelude.{◌≡◌, List, ℕ, min, length, take}

abbrev pub FULL : ℕ
FULL = 1025

pub record Listed (xs : List ℕ) (many : ℕ) (list : List ℕ) : Type 0 where
  pub kept : take many list ≡ take FULL xs
  pub count : many ≡ min (length xs) FULL
  pub long : length list ≡ FULL
