use mathlib.Core.Path.{refl, ◌∙◌}
use native.Mathlib.Omega.{arith}
use borrow.Author.Count.{below_none, below_more}
use borrow.Author.Tests.{lt-ltb, le-ltb}
use Rattle.model.specs.Places.{largest}
use Rattle.model.proofs.Sums.{largest-more}
use Rattle.model.proofs.Places.{first-at, first-none}
use Rattle.graph.specs.File.{records, order}
use Rattle.graph.specs.Rules.{rule3}
use Rattle.rules.proofs.Rows.{any-above}
use borrow.Author.Rules.{rules}
use Rattle.mend.proofs.judge.first_late.Goals as goal

pub loop-k-init : goal.loop-k-init
unfolding largest
loop-k-init c = (below_none _, refl)

pub returns-then-order-latest : goal.returns-then-order-latest
unfolding rule3
returns-then-order-latest c =
    let l = c.loop-k in
    let s = c.args.file.now in
    (first-at (rule3 s) (records s) l.k (search rules) l.invariant.0 (any-above (order s) (order s l.k) l.k ∙ lt-ltb (order s l.k) (largest (order s) l.k) (rw (c.order_of-order.ensures.0, l.invariant.1) at c.if-order-latest.true)), search rules)

pub loop-k-preserved : goal.loop-k-preserved
unfolding rule3
loop-k-preserved c =
    let l = c.loop-k in
    let s = c.args.file.now in
    (below_more _ _ l.invariant.0 (any-above (order s) (order s l.k) l.k ∙ le-ltb (order s l.k) (largest (order s) l.k) (rw (c.order_of-order.ensures.0, l.invariant.1) at c.if-order-latest.false)), omega (arith, largest-more (order s) l.k, l.invariant.1, c.order_of-order.ensures.0, c.if-order-latest.false))

pub returns : goal.returns
returns c =
    let s = c.args.file.now in
    first-none (rule3 s) (records s) (λ j h. c.loop-k.invariant.0 j (omega arith))
