use mathlib.Core.Path.{◌≡◌, ap, ◌∙◌}
use Prim.Native.Nat.{zero-le}
use native.Mathlib.Omega.{arith}
use borrow.Author.Rules.{rules}
use borrow.Author.Tests.{le-ltb}
use lib.Dec.{ltb}
use lib.ListN.{get_or, length, get_or-eq_default}
use Rattle.vset.proofs.Gather.{gather_none, gather-more, gather-all}
use Rattle.waiting.proofs.held.Goals as goal

pub loop-v-init : goal.loop-v-init
loop-v-init c = gather_none _ _ c.none-got.ensures

pub loop-v-preserved : goal.loop-v-preserved
loop-v-preserved c = gather-more _ _ (λ k. ltb 0 (get_or c.args.waiting k 0)) _ c.loop-v.invariant c.with_if-got.ensures

pub returns : goal.returns
returns c =
    let l = c.loop-v in
    let waiting = c.args.waiting in
    let long : length waiting ≡ 128 = search rules in
    let e : l.v ≡ 128 = omega arith in
    gather-all _ (λ k. ltb 0 (get_or waiting k 0)) 128 (rw (← e) l.invariant) (λ k h. ap (ltb 0) (get_or-eq_default waiting 0 (omega arith)) ∙ le-ltb 0 0 zero-le)
