-- The answer (document 01: "The lowest number that applies is given, with the first record or vertex it holds for, counted from 0"),
-- and the value that the reader hands back.
--
--   place_of s num        the first place that number num holds for, or as many as there are
--   applies s num        number num holds for some place
--   lowest a s           the lowest number from a to 11 that applies, or 12
--   judge_from a s        the answer of the numbers from a on: the reader's from 1, the writer's from 4
--   Rightly a s r        r is the lowest number from a on that applies, with the first place that it holds for
--   taken_from a s        that answer, and the graph beside it
--   read_of s             what `read` gives for the file s
use Rattle.std.specs.Prelude.{Ok, Err}
use Rattle.std.specs.Prelude.{◌≡◌, Bool, true, false, List, ℕ, ◌+◌, ◌-◌, ◌≤◌, ◌<◌, ltb}
use Rattle.model.specs.Places.{pick, first}
use Rattle.graph.specs.File.{graph_of, no_graph_of}
use Rattle.graph.specs.Rules.{holds, places}
use Rattle.graph.specs.declared.Refusal.{Refusal}
use Rattle.graph.specs.Answer.{Answer}
use Rattle.graph.specs.Answer.{Accepted, Refused}
use Rattle.graph.specs.declared.Graph.{Graph}
use Rattle.graph.specs.Answer.{Taken}

unfoldable pub place_of : List ℕ → ℕ → ℕ
place_of s num = first (holds s num) (places s num)

unfoldable pub applies : List ℕ → ℕ → Bool
applies s num = ltb (place_of s num) (places s num)

unfoldable pub lowest : ℕ → List ℕ → ℕ
lowest a s = a + first (λ i. applies s (a + i)) (12 - a)

unfoldable pub judge_from : ℕ → List ℕ → Answer
judge_from a s = pick (ltb (lowest a s) 12) (Refused (record { number = lowest a s; place = place_of s (lowest a s) })) Accepted

pub record Rightly (a : ℕ) (s : List ℕ) (r : Refusal) : Type 0 where
  pub least : a ≤ r.number
  pub known : r.number < 12
  pub within : r.place < places s r.number
  pub there : holds s r.number r.place ≡ true
  pub not_before : (k : ℕ) → k < r.place → holds s r.number k ≡ false
  pub no_lower : (num k : ℕ) → a ≤ num → num < r.number → k < places s num → holds s num k ≡ false

abbrev pub graph_beside : Answer → List ℕ → Graph
graph_beside (Ok _) s = graph_of s
graph_beside (Err r) s = no_graph_of

abbrev pub taken_from : ℕ → List ℕ → Taken
taken_from a s = record { answer = judge_from a s; graph = graph_beside (judge_from a s) s }

unfoldable pub read_of : List ℕ → Taken
read_of s = taken_from 1 s
