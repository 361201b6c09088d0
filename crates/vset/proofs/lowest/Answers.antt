use native.Mathlib.Omega.{arith}
use lib.Count.{trailing_le}
use Rattle.vset.specs.Members.{is_in}
use Rattle.vset.proofs.Words.{lowest-low, lowest-high}
use Rattle.vset.proofs.lowest.Goals as goal

pub overflow_cast-result : goal.overflow_cast-result
overflow_cast-result c = omega (arith, trailing_le 64 c.args.s.hi)

pub overflow_add-result : goal.overflow_add-result
overflow_add-result c = omega (arith, trailing_le 64 c.args.s.hi)

pub overflow_cast-result-else-s-eq0 : goal.overflow_cast-result-else-s-eq0
overflow_cast-result-else-s-eq0 c = omega (arith, trailing_le 64 c.args.s.lo)

pub returns-then-s-eq0 : goal.returns-then-s-eq0
unfolding is_in
returns-then-s-eq0 c = lowest-high _ _ (omega arith) (omega arith) (omega arith)

pub returns-else-s-eq0 : goal.returns-else-s-eq0
unfolding is_in
returns-else-s-eq0 c = lowest-low _ _ (omega arith) (omega arith) c.before.if-s-eq0.false
