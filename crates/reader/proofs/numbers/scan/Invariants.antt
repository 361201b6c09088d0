use Prim.Native.Nat.{ℕ, ◌<◌}
use mathlib.Core.Path.{◌≡◌}
use mathlib.Core.Bool.{false}
use Rattle.records.specs.Passing.{Before}
use Rattle.rules.specs.Rows.{of_record}
use Rattle.reader.proofs.numbers.scan.Given as goal

abbrev pub invariant-loop-k : goal.invariant-loop-k
invariant-loop-k l = Before l.file l.k l.p × ((j : ℕ) → j < l.k → of_record l.file l.number j ≡ false)
