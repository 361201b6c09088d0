use native.Mathlib.Omega.{arith}
use Rattle.vset.specs.Members.{is_in, num}
use Rattle.vset.proofs.Digits.{has-zero}
use Rattle.vset.proofs.none.Goals as goal

pub returns : goal.returns
unfolding is_in num
returns c = record { low = (omega arith); high = (omega arith); are = has-zero }
