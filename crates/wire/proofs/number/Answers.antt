use native.Mathlib.Omega.{arith}
use Rattle.wire.proofs.Cut.{number-there, number_missing}
use Rattle.wire.proofs.number.Goals as goal

pub returns-then-rest-lt8 : goal.returns-then-rest-lt8
returns-then-rest-lt8 c = number_missing _ _ (omega arith)

pub returns : goal.returns
returns c = number-there _ _ _ _ c.word.ensures c.word-2.ensures (omega arith)
