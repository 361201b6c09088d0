use mathlib.Core.Path.{◌≡◌, ap, ◌∙◌}
use mathlib.Core.Bool.{true, ◌&&◌, and-true}
use native.Mathlib.Omega.{arith}
use lib.Dec.{ltb}
use Rattle.vset.proofs.Gather.{members_ext, gather_none, gather-more}
use Rattle.waiting.proofs.all.Goals as goal

pub loop-v-init : goal.loop-v-init
loop-v-init c = gather_none c.none-got.result (λ k. true) c.none-got.ensures

pub loop-v-preserved : goal.loop-v-preserved
loop-v-preserved c = gather-more _ _ (λ k. true) _ c.loop-v.invariant c.with-got.ensures

pub returns : goal.returns
returns c =
    let l = c.loop-v in
    let e : l.v ≡ c.args.n = omega arith in
    members_ext l.got (λ k. ltb k l.v && true) (λ k. ltb k c.args.n) l.invariant (λ k. and-true (ltb k l.v) ∙ ap (ltb k) e)
