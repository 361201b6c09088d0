use Prim.Native.Nat.{ℕ, ◌<◌}
use mathlib.Core.Path.{◌≡◌}
use mathlib.Core.Bool.{false, not}
use Rattle.plain.specs.Plain.{type_row_of}
use Rattle.plain.proofs.types.Given as goal

abbrev pub invariant-loop-k : goal.invariant-loop-k
invariant-loop-k l = (j : ℕ) → j < l.k → not (type_row_of l.file j) ≡ false
