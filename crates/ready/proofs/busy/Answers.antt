use borrow.Author.Rules.{rules}
use native.Mathlib.Omega.{arith}
use mathlib.Core.Path.{◌≡◌, ap, ◌∙◌}
use Prim.Native.Nat.{zero-le}
use lib.Dec.{ltb}
use lib.ListN.{length, get_or-eq_default}
use borrow.Author.Tests.{le-ltb}
use Rattle.vset.proofs.Gather.{gather_none, gather-more, gather-all}
use Rattle.ready.specs.Ready.{some_left}
use Rattle.ready.proofs.busy.Goals as goal

pub loop-v-init : goal.loop-v-init
loop-v-init c = gather_none _ _ c.none-got.ensures

pub loop-v-preserved : goal.loop-v-preserved
unfolding some_left
loop-v-preserved c = gather-more _ _ (some_left c.args.left) _ c.loop-v.invariant c.with_if-got.ensures

pub returns : goal.returns
unfolding some_left
returns c =
    let l = c.loop-v in
    let left = c.args.left in
    let long : length left ≡ 128 = search rules in
    let e : l.v ≡ 128 = omega arith in
    gather-all _ (some_left left) 128 (rw (← e) l.invariant) (λ k h. ap (ltb 0) (get_or-eq_default left 0 (omega arith)) ∙ le-ltb 0 0 zero-le)
