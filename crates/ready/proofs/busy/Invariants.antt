use mathlib.Core.Bool.{◌&&◌}
use lib.Dec.{ltb}
use Rattle.vset.specs.Members.{Members}
use Rattle.ready.specs.Ready.{some_left}
use Rattle.ready.proofs.busy.Given as goal

abbrev pub invariant-loop-v : goal.invariant-loop-v
invariant-loop-v l = Members l.got (λ k. ltb k l.v && some_left l.fn.left k)
