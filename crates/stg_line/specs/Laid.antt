-- For our own layers alone: no contract for callers and no claim cites this file.
--
-- A line as the code lays it, field by field.
--
--   tailed xs            each number with a blank before it (proofs/Laying: a line is its first number, and the others so)
--   task_text v time p    the line of task v with this time and the predecessors for which p holds
use Rattle.std.specs.Prelude.{Bool, List, [], ◌∷◌, ◌++◌, ℕ, length}
use Rattle.model.specs.Places.{that}
use Rattle.stg_text.specs.Canonical.{decimal, line_of}

unfoldable pub tailed : List ℕ → List ℕ
tailed [] = []
tailed (x ∷ xs) = (32 ∷ decimal x) ++ tailed xs

unfoldable pub task_text : ℕ → ℕ → (ℕ → Bool) → List ℕ
task_text v time p = line_of (v ∷ time ∷ length (that p 128) ∷ that p 128)
