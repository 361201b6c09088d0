use native.Mathlib.Omega.{arith}
use Rattle.vset.proofs.Words.{both-set}
use Rattle.vset.proofs.both.Goals as goal

pub returns : goal.returns
returns c = both-set c.args.a (omega arith) (omega arith) c.args.b (omega arith) (omega arith)
