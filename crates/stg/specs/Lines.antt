-- For our own layers alone: no contract for callers and no claim cites this file.
--
-- The lines of a text, as the code goes through them.
--
--   Reached s k at       the lines before line k are not at fault, and line k begins at the place
--   Faulted s k          line k is the first at fault
--   precedes s v u       u is a predecessor of task v
--   Blank wcets sets     the tables before anything stands in them
--   Kept s v wcets sets  the tables have the times of the tasks before task v, and for each task those among them that come after it
--   TasksRead s n t ..   what reading the n + 2 tasks gives: the tables, and the place of the lines to skip; or a fault
--   CountRead s c        what reading line 0 gives: the task count, and the place of line 1; or a fault
--   CommentsRead s c     what reading the lines to skip gives: no line is at fault; or a fault
--   LaidOut s r ..       what reading all lines gives: the text is within the layout, and the tables; or it is not, and the first fault
--   Gathered s r ..      the same, with the edges as a list
use Rattle.std.specs.Prelude.{◌≡◌, Bool, true, false, ◌&&◌, List, ℕ, ◌+◌, ◌≤◌, ◌<◌, length, drop, replicate, ltb, Option, Some, None, Result, Ok, Err}
use Rattle.model.specs.Places.{padded}
use Rattle.vset.specs.Members.{is_in}
use Rattle.sets.specs.Sets.{row_of, empty}
use Rattle.stg_text.specs.Fields.{member}
use Rattle.stg_text.specs.Layout.{ended, tasks, faulty, lines_due, fault_at, outside, fault_of}
use Rattle.stg_text.specs.Says.{before_of, wcet_said, edges_said}
use Rattle.stg_scan.specs.Rest.{rest_at}
use Rattle.stg.specs.Listed.{Listed}
use Rattle.stg.specs.declared.Found.{Found}
use Rattle.stg.specs.declared.lines.Fault.{Fault}
use Rattle.stg.specs.declared.lines.Count.{Count}

pub record Reached (s : List ℕ) (k at : ℕ) : Type 0 where
  pub fine : (j : ℕ) → j < k → faulty s j ≡ false
  pub there : k ≤ ended s
  pub here : rest_at s k ≡ drop at s
  pub to : at ≤ length s
  pub few : k ≤ at

pub record Faulted (s : List ℕ) (k : ℕ) : Type 0 where
  pub within : k < lines_due s
  pub is : fault_at s ≡ k
  pub few : k ≤ length s

unfoldable pub precedes : List ℕ → ℕ → ℕ → Bool
precedes s v u = member u (before_of s v)

pub record Blank (wcets : List ℕ) (sets : List (List ℕ)) : Type 0 where
  pub times : wcets ≡ replicate 128 0
  pub none : sets ≡ empty

pub record Kept (s : List ℕ) (v : ℕ) (wcets : List ℕ) (sets : List (List ℕ)) : Type 0 where
  pub times : wcets ≡ padded 128 (wcet_said s) v
  pub long : length sets ≡ 128
  pub after : (u k : ℕ) → u < 128 → k < 128 → is_in (row_of sets u) k ≡ ltb k v && precedes s k u

abbrev pub TasksRead : List ℕ → ℕ → Result ℕ Fault → List ℕ → List (List ℕ) → Type 0
TasksRead s n (Ok at) wcets sets = Reached s (n + 3) at × Kept s (n + 2) wcets sets
TasksRead s n (Err f) wcets sets = Faulted s f.line

abbrev pub CommentsRead : List ℕ → Result (Unit {0}) Fault → Type 0
CommentsRead s (Ok u) = fault_at s ≡ lines_due s
CommentsRead s (Err f) = Faulted s f.line

abbrev pub CountRead : List ℕ → Option Count → Type 0
CountRead s (Some c) = (tasks s ≡ c.tasks) × (c.tasks ≤ 126) × Reached s 1 c.next
CountRead s None = Faulted s 0

abbrev pub LaidOut : List ℕ → Result ℕ Fault → List ℕ → List (List ℕ) → Type 0
LaidOut s (Ok n) wcets sets = (outside s ≡ false) × (tasks s ≡ n) × (n ≤ 126) × Kept s (n + 2) wcets sets
LaidOut s (Err f) wcets sets = (outside s ≡ true) × (fault_of s ≡ f.line) × (f.line ≤ 65536)

abbrev pub Gathered : List ℕ → Result Found Fault → List ℕ → List ℕ → Type 0
Gathered s (Ok r) wcets list = (outside s ≡ false) × (tasks s ≡ r.n) × (r.n ≤ 126) × (wcets ≡ padded 128 (wcet_said s) (r.n + 2)) × Listed (edges_said s) r.edges list
Gathered s (Err f) wcets list = (outside s ≡ true) × (fault_of s ≡ f.line) × (f.line ≤ 65536)
