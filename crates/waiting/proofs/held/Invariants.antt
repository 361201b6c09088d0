use mathlib.Core.Bool.{◌&&◌}
use lib.Dec.{ltb}
use lib.ListN.{get_or}
use Rattle.vset.specs.Members.{Members}
use Rattle.waiting.proofs.held.Given as goal

abbrev pub invariant-loop-v : goal.invariant-loop-v
invariant-loop-v l = Members l.got (λ k. ltb k l.v && ltb 0 (get_or l.waiting k 0))
