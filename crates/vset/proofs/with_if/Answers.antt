use native.Mathlib.Omega.{arith}
use mathlib.Core.Path.{sym}
use mathlib.Core.Bool.{or-false}
use Rattle.vset.proofs.Words.{itself}
use Rattle.vset.proofs.with_if.Goals as goal

pub returns-then-on : goal.returns-then-on
returns-then-on c = rw c.before.if-on.true c.with.ensures

pub returns-else-on : goal.returns-else-on
returns-else-on c = rw c.if-on.false (itself _ (omega arith) (omega arith) _ (λ k. sym (or-false _)))
