use Rattle.model.specs.Places.{count}
use Rattle.vset.specs.Members.{is_in}
use Rattle.remains.proofs.Lowering.{Lowering}
use Rattle.remains.proofs.lower.Given as goal

abbrev pub invariant-loop-rest : goal.invariant-loop-rest
invariant-loop-rest l = Lowering l.initial.left (is_in l.initial.rest) l.d l.left l.over l.least (is_in l.rest)

abbrev pub decreases-loop-rest : goal.decreases-loop-rest
decreases-loop-rest l = count (is_in l.rest) 128
