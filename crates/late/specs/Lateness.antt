-- The answer of `late`, and what is told beside it.
--
--   Lateness      the answer, whether the run ends by tick d, and how many ticks of it were played
--   lateness r    what `late` gives, as that: beside a refusal no, and 0
use Rattle.std.specs.Prelude.{Result, Ok, Err, Bool, false}
use Rattle.units.specs.declared.Ticks.{Ticks}
use Rattle.graph.specs.Answer.{Answer, Accepted, Refused}
use Rattle.graph.specs.declared.Refusal.{Refusal}
use Rattle.late.specs.declared.Ending.{Ending}

pub record Lateness : Type 0 where
  pub answer : Answer
  pub yes : Bool
  pub played : Ticks

abbrev pub lateness : Result Ending Refusal → Lateness
lateness (Ok t) = record { answer = Accepted; yes = t.yes; played = t.played }
lateness (Err r) = record { answer = Refused r; yes = false; played = record { 0 = 0 } }
