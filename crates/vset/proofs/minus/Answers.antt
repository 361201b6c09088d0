use native.Mathlib.Omega.{arith}
use Rattle.vset.proofs.Words.{minus-set}
use Rattle.vset.proofs.minus.Goals as goal

pub returns : goal.returns
returns c = minus-set c.args.a (omega arith) (omega arith) c.args.b (omega arith) (omega arith)
