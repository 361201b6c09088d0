-- What `replay` says: the finish of the schedule that the log records, or a refusal.
use Rattle.std.specs.Prelude.{Result, Ok, Err}
use Rattle.units.specs.declared.Ticks.{Ticks}
use Rattle.graph.specs.declared.Refusal.{Refusal}

abbrev pub Replayed : Type 0
Replayed = Result Ticks Refusal

abbrev pub Finish : Ticks → Replayed
Finish t = Ok t

abbrev pub Refused : Refusal → Replayed
Refused r = Err r
