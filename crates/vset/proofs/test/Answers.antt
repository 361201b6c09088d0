use native.Mathlib.Omega.{arith}
use mathlib.Core.Path.{sym}
use Rattle.vset.specs.Members.{has, is_in}
use Rattle.vset.proofs.Words.{test_low, test-high}
use Rattle.vset.proofs.test.Goals as goal

pub returns-then-i-lt64 : goal.returns-then-i-lt64
unfolding is_in has
returns-then-i-lt64 c = sym (test_low _ _ _ (omega arith))

pub returns-else-i-lt64 : goal.returns-else-i-lt64
unfolding is_in has
returns-else-i-lt64 c = sym (test-high _ _ _ (omega arith) (omega arith))
