use native.Mathlib.Omega.{arith}
use mathlib.Core.Path.{◌≡◌, sym, ap, ◌∙◌}
use mathlib.Core.Bool.{Bool, ◌&&◌}
use Rattle.remains.specs.Remains.{no_more}
use Rattle.model.proofs.Turns.{every-none, every_more}
use Rattle.remains.proofs.within.Goals as goal

pub loop-v-init : goal.loop-v-init
loop-v-init c = sym (every-none _)

pub loop-v-preserved : goal.loop-v-preserved
unfolding no_more
loop-v-preserved c = let l = c.loop-v in ap (λ (b : Bool). b && no_more c.args.left c.args.wcet l.v) l.invariant ∙ sym (every_more (no_more c.args.left c.args.wcet) l.v)

pub returns : goal.returns
returns c = let l = c.loop-v in let e : l.v ≡ 128 = omega arith in rw (← e) l.invariant
