-- What an entry says that hands over a path: how many vertices it has, or a refusal.
use Rattle.std.specs.Prelude.{ℕ, Result, Ok, Err}
use Rattle.graph.specs.declared.Refusal.{Refusal}

abbrev pub Pathed : Type 0
Pathed = Result ℕ Refusal

abbrev pub Vertices : ℕ → Pathed
Vertices n = Ok n

abbrev pub Refused : Refusal → Pathed
Refused r = Err r
