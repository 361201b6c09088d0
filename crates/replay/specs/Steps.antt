-- For our own layers alone: no contract for callers and no claim cites this file.
--
--   above wcet totals v     the total of v is above its WCET
--   JudgedBy g l room r     r is the answer to the log, with the totals where it is accepted
use Rattle.std.specs.Prelude.{◌≡◌, Bool, List, ℕ, ltb, get_or, Result, Ok, Err}
use Rattle.graph.specs.Model.{as_model}
use Rattle.graph.specs.Answer.{Accepted, Refused}
use Rattle.graph.specs.declared.Graph.{Graph}
use Rattle.graph.specs.declared.Refusal.{Refusal}
use Rattle.recorded.specs.Judge.{judge_log}
use Rattle.formed.specs.Passing.{TotalsOf}

unfoldable pub above : List ℕ → List ℕ → ℕ → Bool
above wcet totals v = ltb (get_or wcet v 0) (get_or totals v 0)

abbrev pub JudgedBy : Graph → List ℕ → ℕ → Result (List ℕ) Refusal → Type 0
JudgedBy g l room (Ok totals) = (judge_log (as_model g) l room ≡ Accepted) × TotalsOf g.n l totals
JudgedBy g l room (Err r) = judge_log (as_model g) l room ≡ Refused r
