use native.Mathlib.Omega.{arith}
use Rattle.vset.proofs.Words.{either-set}
use Rattle.vset.proofs.either.Goals as goal

pub returns : goal.returns
returns c = either-set c.args.a (omega arith) (omega arith) c.args.b (omega arith) (omega arith)
