-- For our own layers alone: no contract for callers and no claim cites this file.
--
-- What is known while the sixteen numbers are halved.
--
--   Between G s d low high    no number below low meets the limit, and high does where it is one of the sixteen: the smallest that does, or 17 where
--                             none does, lies between them
use Rattle.std.specs.Prelude.{ℕ, ◌≤◌, ◌<◌}
use Rattle.model.specs.Graph.{Graph}
use Rattle.enough.specs.Answers.{Meets}

pub record Between (G : Graph) (s d low high : ℕ) : Type 0 where
  pub least : 1 ≤ low
  pub ordered : low ≤ high
  pub most : high ≤ 17
  pub none_below : (m : ℕ) → 1 ≤ m → m < low → Meets G s d m → ⊥
  pub there : high ≤ 16 → Meets G s d high
