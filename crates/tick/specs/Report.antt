-- What a tick says of a run: that it moved, or was done and did not move; or a refusal.
use Rattle.std.specs.Prelude.{Result, Ok, Err}
use Rattle.graph.specs.declared.Refusal.{Refusal}
use Rattle.tick.specs.declared.Step.{Step}
use Rattle.tick.specs.declared.Step.TheVariants as steps

abbrev pub Report : Type 0
Report = Result Step Refusal

abbrev pub Moved : Report
Moved = Ok steps.Moved

abbrev pub Done : Report
Done = Ok steps.Done

abbrev pub Refused : Refusal → Report
Refused r = Err r
