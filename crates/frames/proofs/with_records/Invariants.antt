use mathlib.Core.Bool.{◌&&◌}
use lib.ListN.{get_or}
use lib.Dec.{ltb}
use Rattle.vset.specs.Members.{Members}
use Rattle.frames.proofs.with_records.Given as goal

abbrev pub invariant-loop-v : goal.invariant-loop-v
invariant-loop-v l = Members l.got (λ k. ltb k l.v && ltb 0 (get_or l.lasts k 0))
