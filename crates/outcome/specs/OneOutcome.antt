-- A contract that leaves no choice: at the same arguments, two outcomes that it allows (result, and last contents of what was lent) are equal.
-- `OneOutcome T Pre Post` is stated of a generated contract: T is the function's `ended`, Pre and Post those of its `Reads`.
use Rattle.std.specs.Prelude.{◌≡◌}
use contract.Lifetimes.{Lfts}
use denote.Triple.Entry.{Args, Res}
use denote.Triple.Clauses.{Ended, Lasts, AtExit, at_exit}

abbrev pub In : Ended → Type 1
In T = (κs : Lfts T.signature.lifetimes) → Args T.signature κs → Type 0

abbrev pub Out : Ended → Type 1
Out T = (κs : Lfts T.signature.lifetimes) → Args T.signature κs → Res T.signature κs → AtExit T κs → Type 0

abbrev pub OneOutcome : (T : Ended) → In T → Out T → Type 0
OneOutcome T pre post =
    (κs : Lfts T.signature.lifetimes) (a : Args T.signature κs) (r r' : Res T.signature κs) (ws ws' : Lasts T κs a) → pre κs a
    → post κs a r (at_exit T κs a ws) → post κs a r' (at_exit T κs a ws') → (r ≡ r') × (ws ≡ ws')
