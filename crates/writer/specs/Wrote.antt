-- What an entry says that hands over bytes: how many they are, or a refusal.
use Rattle.std.specs.Prelude.{ℕ, Result, Ok, Err}
use Rattle.graph.specs.declared.Refusal.{Refusal}

abbrev pub Wrote : Type 0
Wrote = Result ℕ Refusal

abbrev pub Bytes : ℕ → Wrote
Bytes size = Ok size

abbrev pub Refused : Refusal → Wrote
Refused r = Err r
