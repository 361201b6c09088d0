use lib.ListN.{get_or}
use Rattle.vset.specs.Members.{is_in}
use Rattle.lanes.proofs.Passing.{taken_none, taken_more}
use Rattle.lanes.proofs.busy.Goals as goal

pub loop-u-init : goal.loop-u-init
loop-u-init c = taken_none _ _ _ _ _ c.none-got.ensures

pub loop-u-preserved : goal.loop-u-preserved
loop-u-preserved c =
    let a = c.args in
    taken_more (is_in a.held) (λ v. get_or a.core.now v 0) (λ v. get_or a.kind.now v 0) a.s c.loop-u.u _ _ c.loop-u.invariant
    (rw c.test.ensures at c.with_if-got.ensures)
