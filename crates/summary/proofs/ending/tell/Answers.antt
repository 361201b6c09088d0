use mathlib.Core.Path.{◌≡◌}
use native.Mathlib.Omega.{arith}
use Rattle.summary.specs.Row.{many}
use Rattle.summary.proofs.Rows.{told_none, told_more}
use Rattle.summary.proofs.ending.tell.Goals as goal

pub many-k-end-requires : goal.many-k-end-requires
many-k-end-requires c = c.requires.row.span

pub loop-k-init : goal.loop-k-init
loop-k-init c = told_none _ _ _ _ c.args.sums.now c.requires.sums_len

pub loop-k-preserved : goal.loop-k-preserved
loop-k-preserved c =
    let l = c.loop-k in
    told_more _ _ _ _ _ l.sums l.k c.nth-x.result _ c.nth-x.ensures.value c.nth-x.ensures.upper_bound c.max.ensures l.invariant

pub returns : goal.returns
returns c =
    let e : c.loop-k.k ≡ many c.args.start.now c.args.u = omega (arith, c.many-k-end.ensures) in
    rw e at c.loop-k.invariant
