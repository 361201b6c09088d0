-- The layout of a text, and its first line at fault (order 9). `s` is the text's bytes, lines are counted from 0.
--
-- Every line ends with one line feed. So of the pieces between the line feeds all but the last are lines, and the last is empty; where
-- it is not, it is a line without its line feed.
--
--   line_at s i          line i, without its line feed
--   ended s             how many lines end with a line feed
--   begun s             how many lines there are, one without its line feed included
--   tasks s             the task count n that line 0 says
--   count_line l         the line has one number, from 1 to 126
--   task n v xs         the numbers xs are those of task v among n + 2: its number is its place; its time is 0 if it is the entry or
--                       the exit; as many predecessors as it says, none above n + 1 and none twice
--   task_line n v l      the line has only numbers, and they are those of task v
--   skipped l           # comes first, after any blanks or tabs
--   fits n i l          line i of a text of n tasks is as the layout has it there: the count, a task, or skipped
--   faulty s i          line i does not end with a line feed, or is missing; or it is not as the layout has it
--   lines_due s          how many lines are looked at: those that there must be, and those that there are
--   fault_at s           the first line at fault, or lines_due
--   LIMIT               a text has 65,536 bytes at most
--   outside s           the text is outside the layout
--   fault_of s           the line that is named then: 0 for too long a text, else the first line at fault
use Rattle.std.specs.Prelude.{Bool, false, not, ◌&&◌, ◌||◌, List, [], ◌∷◌, ℕ, ◌+◌, ◌-◌, max, length, get_or, eqb, ltb, leb}
use Rattle.model.specs.Places.{pick, bit, first}
use Rattle.stg_text.specs.Fields.{pieces, all, distinct, feed, blank, numerals, numbers}

unfoldable pub line_at : List ℕ → ℕ → List ℕ
line_at s i = get_or (pieces feed s) i []

unfoldable pub ended : List ℕ → ℕ
ended s = length (pieces feed s) - 1

unfoldable pub begun : List ℕ → ℕ
begun s = ended s + bit (ltb 0 (length (line_at s (ended s))))

unfoldable pub tasks : List ℕ → ℕ
tasks s = get_or (numbers (line_at s 0)) 0 0

unfoldable pub count_line : List ℕ → Bool
count_line l = numerals l && (eqb (length (numbers l)) 1 && (leb 1 (get_or (numbers l) 0 0) && leb (get_or (numbers l) 0 0) 126))

-- the entry is task 0 and the exit task n + 1
abbrev pub at_ends : ℕ → ℕ → Bool
at_ends n v = eqb v 0 || eqb v (n + 1)

unfoldable pub within : ℕ → ℕ → Bool
within n u = leb u (n + 1)

abbrev pub task : ℕ → ℕ → List ℕ → Bool
task n v [] = false
task n v (number ∷ []) = false
task n v (number ∷ time ∷ []) = false
task n v (number ∷ time ∷ count ∷ before) =
    eqb number v && ((not (at_ends n v) || eqb time 0) && (eqb (length before) count && (all (within n) before && distinct before)))

unfoldable pub task_line : ℕ → ℕ → List ℕ → Bool
task_line n v l = numerals l && task n v (numbers l)

unfoldable pub skipped : List ℕ → Bool
skipped [] = false
skipped (c ∷ l) = pick (blank c) (skipped l) (eqb c 35)

unfoldable pub fits : ℕ → ℕ → List ℕ → Bool
fits n i l = pick (eqb i 0) (count_line l) (pick (ltb i (n + 3)) (task_line n (i - 1) l) (skipped l))

unfoldable pub faulty : List ℕ → ℕ → Bool
faulty s i = leb (ended s) i || not (fits (tasks s) i (line_at s i))

unfoldable pub lines_due : List ℕ → ℕ
lines_due s = max (tasks s + 3) (begun s)

unfoldable pub fault_at : List ℕ → ℕ
fault_at s = first (faulty s) (lines_due s)

abbrev pub LIMIT : ℕ
LIMIT = 65536

unfoldable pub outside : List ℕ → Bool
outside s = ltb LIMIT (length s) || ltb (fault_at s) (lines_due s)

unfoldable pub fault_of : List ℕ → ℕ
fault_of s = pick (ltb LIMIT (length s)) 0 (fault_at s)
