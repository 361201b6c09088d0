use mathlib.Core.Path.{◌≡◌, refl, sym, ◌∙◌}
use native.Mathlib.Omega.{arith}
use lib.ListN.{get_or}
use borrow.Author.Tests.{eq-eqb, ne_eqb}
use Rattle.model.specs.Places.{sum}
use Rattle.summary.specs.Row.{many, nth}
use Rattle.ways.proofs.Counting.{cut-more}
use Rattle.ways.proofs.onward.Goals as goal

pub many-count-requires : goal.many-count-requires
many-count-requires c = c.requires.row.span

pub returns-then-count-eq0 : goal.returns-then-count-eq0
returns-then-count-eq0 c = rw (eq-eqb _ 0 (sym c.many-count.ensures ∙ c.if-count-eq0.true)) refl

pub loop-k-init : goal.loop-k-init
unfolding sum
loop-k-init c = omega arith

pub nth-requires : goal.nth-requires
nth-requires c = record { row = c.requires.row; k_bound = omega (arith, c.many-count.ensures) }

pub overflow_add-total : goal.overflow_add-total
overflow_add-total c =
    omega (arith, c.loop-k.invariant, c.requires.by_index c.nth.result)

pub loop-k-preserved : goal.loop-k-preserved
loop-k-preserved c =
    let l = c.loop-k in
    let a = c.args in cut-more (λ i. get_or a.ways.now (nth a.edge.now a.start.now a.u i) 0) l.k l.total c.min-total.result l.invariant
    (rw c.nth.ensures.value at c.min-total.ensures)

pub returns : goal.returns
returns c =
    let l = c.loop-k in
    let e : l.k ≡ many c.args.start.now c.args.u = omega (arith, c.many-count.ensures) in
    rw (ne_eqb _ 0 (λ z. c.if-count-eq0.false (c.many-count.ensures ∙ z))) (rw e at l.invariant)
