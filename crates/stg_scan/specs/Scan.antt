-- For our own layers alone: no contract for callers and no claim cites this file.
--
-- How the code goes through a text.
--
-- What is left of a text from a place on is `drop at s`. Each function here goes along it byte by byte and keeps count of the place, so
-- that a loop's invariant is one equation: what is to come from here gives what was to come from the start.
--
--   parts c              a blank, a tab or a line feed
--   skip_at i r           the place of the first byte that is no blank and no tab
--   feed_at_of i r           the place of the first line feed, or None
--   scan i k x r         the number that goes on here, with k digits so far that say x; or None
--   token_at s at         what comes first in the text from the place on: the line's end, a number, or None
use Rattle.std.specs.Prelude.{Bool, ◌&&◌, ◌||◌, List, [], ◌∷◌, ℕ, ◌+◌, ◌-◌, ◌*◌, length, get_or, drop, eqb, ltb, Option, Some, None}
use Rattle.model.specs.Places.{pick}
use Rattle.stg_text.specs.Fields.{feed, blank, digit}
use Rattle.stg_scan.specs.declared.Token.{Token}
use Rattle.stg_scan.specs.declared.Token.TheVariants.{End, Number}

unfoldable pub parts : ℕ → Bool
parts c = blank c || feed c

unfoldable pub skip_at : ℕ → List ℕ → ℕ
skip_at i [] = i
skip_at i (c ∷ r) = pick (blank c) (skip_at (i + 1) r) i

unfoldable pub feed_at_of : ℕ → List ℕ → Option ℕ
feed_at_of i [] = None
feed_at_of i (c ∷ r) = pick (feed c) (Some i) (feed_at_of (i + 1) r)

unfoldable pub scan : ℕ → ℕ → ℕ → List ℕ → Option Token
scan i k x [] = Some (Number x i)
scan i k x (c ∷ r) = pick (parts c) (Some (Number x i)) (pick (digit c && ltb k 10) (scan (i + 1) (k + 1) (10 * x + (c - 48)) r) None)

-- from the place p on, where no blank or tab stands
unfoldable pub token_from : List ℕ → ℕ → Option Token
token_from s p = pick (eqb p (length s)) None (pick (feed (get_or s p 0)) (Some (End (p + 1))) (scan p 0 0 (drop p s)))

unfoldable pub token_at : List ℕ → ℕ → Option Token
token_at s at = token_from s (skip_at at (drop at s))
