use native.Mathlib.Omega.{arith}
use Rattle.wire.proofs.Cut.{list-there, list_missing}
use Rattle.wire.proofs.list.Goals as goal

pub returns-then-long-left-clause-value : goal.returns-then-long-left-clause-value
returns-then-long-left-clause-value c = list-there _ _ _ c.word-long.ensures (omega arith)

pub returns-else-long-left-clause-value : goal.returns-else-long-left-clause-value
returns-else-long-left-clause-value c = list_missing _ _ (omega arith)

pub returns-else-left-ge4-clause-value : goal.returns-else-left-ge4-clause-value
returns-else-left-ge4-clause-value c = list_missing _ _ (omega arith)
