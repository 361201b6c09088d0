use native.Mathlib.Omega.{arith}
use lib.Count.{ones-le}
use Rattle.vset.specs.Members.{is_in}
use Rattle.vset.proofs.Words.{size-has}
use Rattle.vset.proofs.size.Goals as goal

pub overflow_add-result : goal.overflow_add-result
overflow_add-result c = let s = c.args.s in omega (arith, ones-le 64 s.lo (omega arith), ones-le 64 s.hi (omega arith))

pub returns : goal.returns
unfolding is_in
returns c = size-has _ _ (omega arith) (omega arith)
