use mathlib.Core.Path.{sym, ◌∙◌}
use native.Mathlib.Omega.{arith}
use borrow.Author.Count.{below_none, below_more}
use borrow.Author.Tests.{eq-eqb, ne_eqb}
use Rattle.model.proofs.Places.{first-at, first-none}
use Rattle.graph.specs.File.{records, order}
use Rattle.mends.specs.Answers.{unknown}
use borrow.Author.Rules.{rules}
use Rattle.mend.proofs.judge.first_unknown.Goals as goal

pub loop-k-init : goal.loop-k-init
loop-k-init c = below_none _

pub returns-then-order_of-eq3 : goal.returns-then-order_of-eq3
unfolding unknown
returns-then-order_of-eq3 c =
    let l = c.loop-k in
    let s = c.args.file.now in
    (first-at (unknown s) (records s) l.k (search rules) l.invariant (eq-eqb (order s l.k) 3 (sym c.order_of.ensures.0 ∙ c.if-order_of-eq3.true)), search rules)

pub loop-k-preserved : goal.loop-k-preserved
unfolding unknown
loop-k-preserved c =
    let l = c.loop-k in
    let s = c.args.file.now in
    below_more _ _ l.invariant (ne_eqb (order s l.k) 3 (λ q. c.if-order_of-eq3.false (c.order_of.ensures.0 ∙ q)))

pub returns : goal.returns
returns c =
    let s = c.args.file.now in
    first-none (unknown s) (records s) (λ j h. c.loop-k.invariant j (omega arith))
