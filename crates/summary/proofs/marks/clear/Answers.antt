use mathlib.Core.Path.{◌≡◌}
use native.Mathlib.Omega.{arith}
use Rattle.summary.proofs.Marking.{cleared-none, cleared_more}
use Rattle.summary.proofs.marks.clear.Goals as goal

pub loop-u-init : goal.loop-u-init
loop-u-init c = cleared-none _ _ c.requires.sums_len

pub loop-u-preserved : goal.loop-u-preserved
loop-u-preserved c =
    let l = c.loop-u in
    cleared_more _ _ l.sums l.u _ (omega arith) c.unmarked.ensures l.invariant

pub returns : goal.returns
returns c =
    let e : c.loop-u.u ≡ c.args.n = omega arith in
    rw e at c.loop-u.invariant
