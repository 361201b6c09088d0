use mathlib.Core.Path.{◌≡◌}
use native.Mathlib.Omega.{arith}
use Rattle.summary.specs.Row.{many}
use Rattle.summary.proofs.Rows.{told_none, told_more}
use Rattle.gaining.proofs.Tops.{led-none, led-more}
use Rattle.gaining.proofs.passing.lead.Goals as goal

pub many-k-end-requires : goal.many-k-end-requires
many-k-end-requires c = c.requires.row.span

pub loop-k-init : goal.loop-k-init
loop-k-init c = (told_none _ _ _ _ c.args.best.now c.requires.best_len, led-none _ _ _ _ _)

pub overflow_add-on : goal.overflow_add-on
overflow_add-on c =
    omega (arith, c.requires.sum_bound, c.requires.by_index c.nth-x.result)

pub loop-k-preserved : goal.loop-k-preserved
loop-k-preserved c =
    let l = c.loop-k in
    let x = c.nth-x.result in
    let d = c.nth-x.ensures in (
      told_more _ _ _ _ _ l.best l.k x _ d.value d.upper_bound c.max.ensures l.invariant.0,
      led-more _ _ _ _ _ l.next c.higher-next.result l.k x d.value c.higher-next.ensures l.invariant.1,
    )

pub returns : goal.returns
returns c =
    let e : c.loop-k.k ≡ many c.args.start.now c.args.u = omega (arith, c.many-k-end.ensures) in
    let whole = rw e at c.loop-k.invariant in
    record { told = whole.0; led = whole.1 }
