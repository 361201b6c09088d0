use mathlib.Core.Path.{◌≡◌, sym, ap₂, ◌∙◌, fun_ext}
use mathlib.Core.Bool.{Bool, ◌&&◌}
use Prim.Native.Nat.{ℕ}
use native.Mathlib.Omega.{arith}
use lib.Dec.{eqb}
use lib.ListN.{get_or}
use Rattle.model.specs.Places.{every}
use Rattle.model.proofs.Turns.{every-none, every_more}
use Rattle.vset.specs.Members.{is_in}
use Rattle.waiting.specs.Waiting.{self_counted}
use Rattle.waiting.proofs.agree.Invariants.{right}
use Rattle.waiting.proofs.agree.Goals as goal

pub loop-v-init : goal.loop-v-init
loop-v-init c = sym (every-none _)

pub loop-v-preserved : goal.loop-v-preserved
loop-v-preserved c =
    let l = c.loop-v in
    let w = c.args.waiting in
    ap₂ (λ (x : Bool) (y : ℕ). x && eqb (get_or w l.v 0) y) l.invariant c.common.ensures ∙ sym (every_more (right c.args.pred.now w (is_in c.either-some.result)) l.v)

pub returns : goal.returns
unfolding self_counted
returns c =
    let l = c.loop-v in
    let a = c.args in
    let q : l.v ≡ 128 = omega arith in
    l.invariant ∙ ap₂ (λ (f : ℕ → Bool) (k : ℕ). every (right a.pred.now a.waiting f) k) (fun_ext c.either-some.ensures.are) q
