use native.Mathlib.Omega.{arith}
use Rattle.vset.proofs.Words.{with-low-set, with-high-set}
use Rattle.vset.proofs.with.Goals as goal

pub returns-then-i-lt64 : goal.returns-then-i-lt64
returns-then-i-lt64 c = with-low-set c.args.s (omega arith) (omega arith) _ (omega arith)

pub returns-else-i-lt64 : goal.returns-else-i-lt64
returns-else-i-lt64 c = with-high-set c.args.s (omega arith) (omega arith) _ (omega arith) (omega arith)
