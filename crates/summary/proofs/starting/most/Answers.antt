use mathlib.Core.Path.{◌≡◌, refl}
use native.Mathlib.Omega.{arith}
use Rattle.model.specs.Places.{largest}
use Rattle.summary.specs.Row.{many}
use Rattle.summary.proofs.Rows.{most-more}
use Rattle.summary.proofs.starting.most.Goals as goal

pub many-k-end-requires : goal.many-k-end-requires
many-k-end-requires c = c.requires.span

pub loop-k-init : goal.loop-k-init
unfolding largest
loop-k-init c = refl

pub loop-k-preserved : goal.loop-k-preserved
loop-k-preserved c =
    let l = c.loop-k in
    let a = c.args in
    most-more a.edge.now a.start.now a.u a.sums.now 0 l.k c.nth.result l.most c.max-most.result c.nth.ensures.value c.max-most.ensures l.invariant

pub returns : goal.returns
returns c =
    let a = c.args in
    let e : c.loop-k.k ≡ many a.start.now a.u = omega (arith, c.many-k-end.ensures) in
    let q = rw e at c.loop-k.invariant in omega (arith, q)
