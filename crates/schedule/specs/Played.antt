-- What `run` says: the finish, or a refusal.
use Rattle.std.specs.Prelude.{Result, Ok, Err}
use Rattle.units.specs.declared.Ticks.{Ticks}
use Rattle.graph.specs.declared.Refusal.{Refusal}

abbrev pub Played : Type 0
Played = Result Ticks Refusal

abbrev pub Finish : Ticks → Played
Finish t = Ok t

abbrev pub Refused : Refusal → Played
Refused r = Err r
