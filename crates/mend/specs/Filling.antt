-- For our own layers alone: no contract for callers and no claim cites this file.
--
-- What the parts of `mend` give each other.
--
--   Filled s room list r file listed   both buffers are filled, and r has the lengths
--   Answered a s room list r file listed   the answer r, and what the buffers hold, where 1, 2 and 3 give a
use Rattle.std.specs.Prelude.{◌≡◌, List, ◌++◌, ℕ, length, drop}
use Rattle.graph.specs.Answer.{Answer}
use Rattle.mends.specs.Mended.{mended_of}
use Rattle.mends.specs.Listed.{list_of}
use Rattle.mends.specs.Answers.{mend_by, held_by}
use Rattle.mends.specs.declared.Sizes.{Sizes}
use Rattle.mends.specs.Answers.{Mended}

pub record Filled (s room list : List ℕ) (r : Sizes) (file listed : List ℕ) : Type 0 where
  pub sizes : r ≡ record { file = length (mended_of s); list = length (list_of s) }
  pub file_holds : file ≡ mended_of s ++ drop (length (mended_of s)) room
  pub list_holds : listed ≡ list_of s ++ drop (length (list_of s)) list

pub record Answered (a : Answer) (s room list : List ℕ) (r : Mended) (file listed : List ℕ) : Type 0 where
  pub answer : r ≡ mend_by a s (length room) (length list)
  pub file_holds : file ≡ held_by r (mended_of s) room
  pub list_holds : listed ≡ held_by r (list_of s) list
