use native.Mathlib.Omega.{arith}
use lib.Count.{trailing_le}
use Rattle.vset.specs.Members.{is_in}
use Rattle.vset.proofs.Words.{lowest-low, lowest-high, some-high, next-low-set, next-high-set}
use Rattle.vset.proofs.next.Goals as goal

pub overflow_cast-result : goal.overflow_cast-result
overflow_cast-result c = omega (arith, trailing_le 64 c.args.s.lo)

pub overflow_cast-result-else-s-ne0 : goal.overflow_cast-result-else-s-ne0
overflow_cast-result-else-s-ne0 c = omega (arith, trailing_le 64 c.args.s.hi)

pub overflow_add-result : goal.overflow_add-result
overflow_add-result c = omega (arith, trailing_le 64 c.args.s.hi)

pub overflow_sub-result-else-s-ne0 : goal.overflow_sub-result-else-s-ne0
unfolding is_in
overflow_sub-result-else-s-ne0 c = some-high _ _ (omega arith) (omega arith) c.requires (omega arith)

pub returns-then-s-ne0 : goal.returns-then-s-ne0
unfolding is_in
returns-then-s-ne0 c =
    let s = c.args.s in
    record { v_value = lowest-low _ _ (omega arith) (omega arith) (λ z. omega arith); members = next-low-set s (omega arith) (omega arith) (omega arith) }

pub returns-else-s-ne0 : goal.returns-else-s-ne0
unfolding is_in
returns-else-s-ne0 c =
    let s = c.args.s in
    record { v_value = lowest-high _ _ (omega arith) (omega arith) (omega arith); members = next-high-set s (omega arith) (omega arith) (some-high _ _ (omega arith) (omega arith) c.requires (omega arith)) }
