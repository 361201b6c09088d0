-- What a text of the layout says: the lists that the writer of the record file takes, beside the lent cores and kinds.
--
--   time_of s v          the time of task v
--   before_of s v        the predecessors of task v, as they stand in its line
--   edge_said s k          the edge k = u × 256 + v: u is a predecessor of task v
--   wcets_of s           the times of the n + 2 tasks, as 32-bit numbers
--   edges_said s           the edges, ascending by (from, to)
--   says s cores kinds  these lists together
--
-- A time that 32 bits can't hold is taken as the largest that they can: both are above 1,000,000, and number 7 says no to both.
use Rattle.std.specs.Prelude.{Bool, ◌&&◌, List, ℕ, suc, ◌+◌, ◌*◌, ◌/◌, ◌%◌, min, get_or, drop, ltb}
use Rattle.model.specs.Places.{table, that}
use Rattle.writer.specs.Lists.{Lists, lists}
use Rattle.stg_text.specs.Fields.{member, numbers}
use Rattle.stg_text.specs.Layout.{line_at, tasks}

unfoldable pub time_of : List ℕ → ℕ → ℕ
time_of s v = get_or (numbers (line_at s (suc v))) 1 0

unfoldable pub before_of : List ℕ → ℕ → List ℕ
before_of s v = drop 3 (numbers (line_at s (suc v)))

unfoldable pub edge_said : List ℕ → ℕ → Bool
edge_said s k = ltb (k % 256) (tasks s + 2) && member (k / 256) (before_of s (k % 256))

unfoldable pub wcet_said : List ℕ → ℕ → ℕ
wcet_said s v = min (time_of s v) 4294967295

unfoldable pub wcets_of : List ℕ → List ℕ
wcets_of s = table (wcet_said s) (tasks s + 2)

unfoldable pub edges_said : List ℕ → List ℕ
edges_said s = that (edge_said s) (256 * (tasks s + 2))

unfoldable pub says : List ℕ → List ℕ → List ℕ → Lists
says s cores kinds = lists cores kinds (wcets_of s) (edges_said s)
