use native.Mathlib.Omega.{arith}
use borrow.Author.Tests.{le-ltb, lt-ltb}
use Rattle.graph.specs.Rules.{rule10}
use Rattle.rules.proofs.not_above.Goals as goal

pub returns-then-k-eq0 : goal.returns-then-k-eq0
unfolding rule10
returns-then-k-eq0 c = simp (le-ltb 0 c.args.k (omega arith))

pub returns : goal.returns
unfolding rule10
returns c =
    simp (lt-ltb 0 c.args.k (omega arith), c.key-2.ensures.0, c.key.ensures.0, c.order_of-before.ensures.0, c.order_of-order.ensures.0)
