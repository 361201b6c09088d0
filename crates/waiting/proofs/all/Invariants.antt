use mathlib.Core.Bool.{true, ◌&&◌}
use lib.Dec.{ltb}
use Rattle.vset.specs.Members.{Members}
use Rattle.waiting.proofs.all.Given as goal

abbrev pub invariant-loop-v : goal.invariant-loop-v
invariant-loop-v l = Members l.got (λ k. ltb k l.v && true)
