-- For our own layers alone: no contract for callers and no claim cites this file.
--
-- What the code keeps of a line of numbers.
--
--   Holds n xs r         the row r keeps the numbers xs, the predecessors among them within n + 1 and distinct
--   Taken n xs r         the row keeps them, or there is none where they aren't
--   LineRead s at n r e  the line from the place on is one of numbers, r keeps them, and the next line begins at e
--   Lined s at n l       what reading a line gives: that, or None where the line has no line feed, a field that is no number, or
--                        unlawful predecessors
--   counts xs            the numbers are one, from 1 to 126
--   TaskRead s at n v .. the line from the place on is that of task v among n + 2, with this time and these predecessors
--   Tasked s at n v t    what reading such a line gives: that, or None
--   CommentRead s at e   the line from the place on is one to skip, and the next line begins at e
--   Commented s at c     what reading such a line gives: that, or None
use Rattle.std.specs.Prelude.{◌≡◌, Bool, true, false, ◌&&◌, List, ℕ, ◌≤◌, ◌<◌, min, length, get_or, drop, eqb, leb, Option, Some, None}
use Rattle.vset.specs.Members.{Members}
use Rattle.vset.specs.declared.Vset.{Vset}
use Rattle.stg_text.specs.Fields.{member, numerals, numbers}
use Rattle.stg_text.specs.Layout.{task_line, skipped}
use Rattle.stg_scan.specs.Rest.{until_feed, has_feed, past_feed, lawful}
use Rattle.stg.specs.declared.row.Row.{Row}
use Rattle.stg.specs.declared.row.Line.{Line}
use Rattle.stg.specs.declared.task.Task.{Task}

unfoldable pub among : List ℕ → ℕ → Bool
among xs k = member k (drop 3 xs)

pub record Holds (n : ℕ) (xs : List ℕ) (r : Row) : Type 0 where
  pub all_many : r.many ≡ length xs
  pub has_number : r.number ≡ get_or xs 0 0
  pub has_time : r.time ≡ get_or xs 1 0
  pub has_count : r.count ≡ get_or xs 2 0
  pub has_before : Members r.before (among xs)
  pub fine : lawful n xs ≡ true

abbrev pub Taken : ℕ → List ℕ → Option Row → Type 0
Taken n xs (Some r) = Holds n xs r
Taken n xs None = lawful n xs ≡ false

pub record LineRead (s : List ℕ) (at n : ℕ) (r : Row) (e : ℕ) : Type 0 where
  pub ends : has_feed (drop at s) ≡ true
  pub all_numerals : numerals (until_feed (drop at s)) ≡ true
  pub holds : Holds n (numbers (until_feed (drop at s))) r
  pub past : past_feed (drop at s) ≡ drop e s
  pub further : at < e
  pub to : e ≤ length s

abbrev pub Lined : List ℕ → ℕ → ℕ → Option Line → Type 0
Lined s at n (Some l) = LineRead s at n l.row l.next
Lined s at n None = has_feed (drop at s) && (numerals (until_feed (drop at s)) && lawful n (numbers (until_feed (drop at s)))) ≡ false

unfoldable pub counts : List ℕ → Bool
counts xs = eqb (length xs) 1 && (leb 1 (get_or xs 0 0) && leb (get_or xs 0 0) 126)

pub record TaskRead (s : List ℕ) (at n v time : ℕ) (before : Vset) (e : ℕ) : Type 0 where
  pub fine : has_feed (drop at s) && task_line n v (until_feed (drop at s)) ≡ true
  pub has_time : time ≡ min (get_or (numbers (until_feed (drop at s))) 1 0) 4294967295
  pub has_before : Members before (among (numbers (until_feed (drop at s))))
  pub past : past_feed (drop at s) ≡ drop e s
  pub further : at < e
  pub to : e ≤ length s

abbrev pub Tasked : List ℕ → ℕ → ℕ → ℕ → Option Task → Type 0
Tasked s at n v (Some t) = TaskRead s at n v t.time t.before t.next
Tasked s at n v None = has_feed (drop at s) && task_line n v (until_feed (drop at s)) ≡ false

pub record CommentRead (s : List ℕ) (at e : ℕ) : Type 0 where
  pub fine : has_feed (drop at s) && skipped (until_feed (drop at s)) ≡ true
  pub past : past_feed (drop at s) ≡ drop e s
  pub further : at < e
  pub to : e ≤ length s

abbrev pub Commented : List ℕ → ℕ → Option ℕ → Type 0
Commented s at (Some e) = CommentRead s at e
Commented s at None = has_feed (drop at s) && skipped (until_feed (drop at s)) ≡ false
