-- What an entry says that hands over gains: how many there are, or a refusal.
use Rattle.std.specs.Prelude.{ℕ, Result, Ok, Err}
use Rattle.graph.specs.declared.Refusal.{Refusal}

abbrev pub Gained : Type 0
Gained = Result ℕ Refusal

abbrev pub Vertices : ℕ → Gained
Vertices n = Ok n

abbrev pub Refused : Refusal → Gained
Refused r = Err r
