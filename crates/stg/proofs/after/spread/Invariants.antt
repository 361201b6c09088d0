use Rattle.model.specs.Places.{count}
use Rattle.vset.specs.Members.{is_in}
use Rattle.stg.proofs.Spreading.{Spreading}
use Rattle.stg.proofs.after.spread.Given as goal

abbrev pub invariant-loop-rest : goal.invariant-loop-rest
invariant-loop-rest l = Spreading l.initial.after (is_in l.initial.rest) l.v l.after (is_in l.rest)

abbrev pub decreases-loop-rest : goal.decreases-loop-rest
decreases-loop-rest l = count (is_in l.rest) 128
