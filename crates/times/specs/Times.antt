-- Execution times as a caller gives them (document 01, the numbers 13 and 14).
--
--   times_of e v         the execution time of v, by the list e
--   too_long_of wcet e v    the time of v is above its WCET
--   first_of p n         the first place below n at which p holds, or None
--   judge_times g e      13 where the list's length isn't the vertex count, then 14 at the first vertex whose time is above its WCET
--   Fitting g e         the times e are no refusal of 13 or 14
use Rattle.std.specs.Prelude.{◌≡◌, Bool, List, Option, Some, None, ℕ, ◌≤◌, ◌<◌, eqb, ltb, get_or, length}
use Rattle.model.specs.Places.{pick, first}
use Rattle.graph.specs.declared.Graph.{Graph}
use Rattle.graph.specs.Answer.{Answer}
use Rattle.graph.specs.Answer.{Accepted, Refused}

abbrev pub times_of : List ℕ → ℕ → ℕ
times_of e v = get_or e v 0

unfoldable pub too_long_of : List ℕ → List ℕ → ℕ → Bool
too_long_of wcet e v = ltb (get_or wcet v 0) (get_or e v 0)

abbrev pub first_of : (ℕ → Bool) → ℕ → Option ℕ
first_of p n = pick (ltb (first p n) n) (Some (first p n)) None

unfoldable pub judge_times : Graph → List ℕ → Answer
judge_times g e =
    pick (eqb (length e) g.n)
    (pick (ltb (first (too_long_of g.wcet e) g.n) g.n) (Refused (record { number = 14; place = first (too_long_of g.wcet e) g.n })) Accepted)
    (Refused (record { number = 13; place = 0 }))

pub record Fitting (g : Graph) (e : List ℕ) : Type 0 where
  pub as_many : length e ≡ g.n
  pub short : (v : ℕ) → v < g.n → get_or e v 0 ≤ get_or g.wcet v 0
