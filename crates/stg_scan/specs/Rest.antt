-- For our own layers alone: no contract for callers and no claim cites this file.
--
-- What is left of a text, as a line and what follows it.
--
--   until_feed r          the bytes before the first line feed, or all
--   has_feed r            there is a line feed
--   past_feed r           the bytes past the first line feed
--   rest_at s i           what is left of the text s from line i on
--   lawful n xs          of a task's numbers, the predecessors: none above n + 1 and none twice
use Rattle.std.specs.Prelude.{Bool, false, ◌&&◌, ◌||◌, List, [], ◌∷◌, ℕ, zero, suc, drop}
use Rattle.model.specs.Places.{pick}
use Rattle.stg_text.specs.Fields.{all, distinct, feed}
use Rattle.stg_text.specs.Layout.{within}

unfoldable pub until_feed : List ℕ → List ℕ
until_feed [] = []
until_feed (c ∷ r) = pick (feed c) [] (c ∷ until_feed r)

unfoldable pub has_feed : List ℕ → Bool
has_feed [] = false
has_feed (c ∷ r) = feed c || has_feed r

unfoldable pub past_feed : List ℕ → List ℕ
past_feed [] = []
past_feed (c ∷ r) = pick (feed c) r (past_feed r)

unfoldable pub rest_at : List ℕ → ℕ → List ℕ
rest_at s zero = s
rest_at s (suc i) = past_feed (rest_at s i)

unfoldable pub lawful : ℕ → List ℕ → Bool
lawful n xs = all (within n) (drop 3 xs) && distinct (drop 3 xs)
