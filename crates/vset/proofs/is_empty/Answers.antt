use native.Mathlib.Omega.{arith}
use Rattle.vset.specs.Members.{is_in}
use Rattle.vset.proofs.Words.{empty-has}
use Rattle.vset.proofs.is_empty.Goals as goal

pub returns : goal.returns
unfolding is_in
returns c = empty-has _ _ (omega arith) (omega arith)
