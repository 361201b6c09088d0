-- The answer of `second`, and the second bound beside it.
--
--   Seconded      the answer, and NEW-B-2 in parts
--   seconded r    what `second` gives, as that: beside a refusal the bound is 0
use Rattle.std.specs.Prelude.{Result, Ok, Err}
use Rattle.units.specs.declared.Parts.{Parts}
use Rattle.graph.specs.Answer.{Answer, Accepted, Refused}
use Rattle.graph.specs.declared.Refusal.{Refusal}

pub record Seconded : Type 0 where
  pub answer : Answer
  pub parts : Parts

abbrev pub seconded : Result Parts Refusal → Seconded
seconded (Ok p) = record { answer = Accepted; parts = p }
seconded (Err r) = record { answer = Refused r; parts = record { 0 = 0 } }
