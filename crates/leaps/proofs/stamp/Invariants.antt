use Rattle.model.specs.Places.{count}
use Rattle.vset.specs.Members.{is_in}
use Rattle.leaps.proofs.OneByOne.{Stamping}
use Rattle.leaps.proofs.stamp.Given as goal

abbrev pub invariant-loop-rest : goal.invariant-loop-rest
invariant-loop-rest l = Stamping l.initial.finishes (is_in l.initial.rest) l.instant l.finishes (is_in l.rest)

abbrev pub decreases-loop-rest : goal.decreases-loop-rest
decreases-loop-rest l = count (is_in l.rest) 128
