use mathlib.Core.Path.{◌≡◌}
use Prim.Native.Nat.{◌-◌}
use native.Mathlib.Omega.{arith}
use borrow.Author.Rules.{rules}
use Rattle.model.specs.Places.{any}
use Rattle.summary.specs.Row.{many}
use Rattle.parallel.proofs.Reaching.{reached-more}
use Rattle.parallel.proofs.descendants.reached.Goals as goal

pub many-k-end-requires : goal.many-k-end-requires
many-k-end-requires c = c.requires.span

pub loop-k-init : goal.loop-k-init
unfolding any
loop-k-init c = c.none-got.ensures

pub loop-k-preserved : goal.loop-k-preserved
loop-k-preserved c =
    let l = c.loop-k in
    let a = c.args in
    reached-more a.edge.now a.start.now a.t.now a.u l.k c.nth-x.result l.got c.with.result _ c.nth-x.ensures.value l.invariant (rw c.row.ensures at c.with.ensures) c.either-got.ensures

pub returns : goal.returns
returns c =
    let e : c.loop-k.k ≡ many c.args.start.now c.args.u = omega (arith, c.many-k-end.ensures) in
    rw e at c.loop-k.invariant
