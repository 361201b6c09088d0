-- The text that the writer writes (order 9: "one blank between fields, ascending predecessors, no leading zeros and no comments").
--
--   digits_of k x            the number x in decimal, without leading zeros, where k digits are enough
--   decimal x               the same for the numbers of a text, which have ten digits at most
--   spaced xs               the numbers in decimal, one blank between two of them
--   line_of xs               the same, ended by a line feed
--   task_of n time pred v    the numbers of task v among n + 2: its place, its time, how many predecessors, and these, ascending
--   lay_out_of n time pred      the text of n tasks with these times, where pred u v says that u is a predecessor of v
--   text_of h                the text of the graph h that the record file's reader hands back
use Rattle.std.specs.Prelude.{Bool, List, [], ◌∷◌, ◌++◌, ℕ, zero, suc, ◌+◌, ◌-◌, ◌/◌, ◌%◌, length, ltb}
use Rattle.model.specs.Places.{pick, that}
use Rattle.graph.specs.Model.{as_model}
use Rattle.graph.specs.declared.Graph.{Graph}
use Rattle.writer.specs.Write as writer

unfoldable pub digits_of : ℕ → ℕ → List ℕ
digits_of zero x = []
digits_of (suc k) x = pick (ltb x 10) [] (digits_of k (x / 10)) ++ ((48 + x % 10) ∷ [])

unfoldable pub decimal : ℕ → List ℕ
decimal x = digits_of 10 x

unfoldable pub spaced : List ℕ → List ℕ
spaced [] = []
spaced (x ∷ []) = decimal x
spaced (x ∷ y ∷ xs) = decimal x ++ (32 ∷ spaced (y ∷ xs))

unfoldable pub line_of : List ℕ → List ℕ
line_of xs = spaced xs ++ (10 ∷ [])

unfoldable pub before : ℕ → (ℕ → ℕ → Bool) → ℕ → List ℕ
before n pred v = that (λ u. pred u v) (n + 2)

unfoldable pub task_of : ℕ → (ℕ → ℕ) → (ℕ → ℕ → Bool) → ℕ → List ℕ
task_of n time pred v = v ∷ time v ∷ length (before n pred v) ∷ before n pred v

unfoldable pub task_line_of : ℕ → (ℕ → ℕ) → (ℕ → ℕ → Bool) → ℕ → List ℕ
task_line_of n time pred v = line_of (task_of n time pred v)

unfoldable pub lay_out_of : ℕ → (ℕ → ℕ) → (ℕ → ℕ → Bool) → List ℕ
lay_out_of n time pred = line_of (n ∷ []) ++ writer.joined (task_line_of n time pred) (n + 2)

-- a graph of n + 2 vertices has n tasks beside its entry and its exit
unfoldable pub text_of : Graph → List ℕ
text_of h = lay_out_of (h.n - 2) (as_model h).wcet (as_model h).edge
