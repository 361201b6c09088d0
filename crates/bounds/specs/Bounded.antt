-- The answer of `bounds`, and the two bounds beside it.
--
--   Bounded      the answer, OLD-B and NEW-B-1 in parts, and NEW-B-1 in whole ticks
--   bounded r    what `bounds` gives, as that: beside a refusal all three are 0
use Rattle.std.specs.Prelude.{Result, Ok, Err}
use Rattle.units.specs.declared.Parts.{Parts}
use Rattle.units.specs.declared.Ticks.{Ticks}
use Rattle.graph.specs.Answer.{Answer, Accepted, Refused}
use Rattle.graph.specs.declared.Refusal.{Refusal}
use Rattle.bounds.specs.declared.BothBounds.{BothBounds}

pub record Bounded : Type 0 where
  pub answer : Answer
  pub old : Parts
  pub new : Parts
  pub ticks : Ticks

abbrev pub bounded : Result BothBounds Refusal → Bounded
bounded (Ok b) = record { answer = Accepted; old = b.old; new = b.new; ticks = b.ticks }
bounded (Err r) = record { answer = Refused r; old = record { 0 = 0 }; new = record { 0 = 0 }; ticks = record { 0 = 0 } }
