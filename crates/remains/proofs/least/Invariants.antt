use Rattle.model.specs.Places.{count}
use Rattle.vset.specs.Members.{is_in}
use Rattle.remains.specs.Remains.{place}
use Rattle.remains.proofs.Fewest.{Least}
use Rattle.remains.proofs.least.Given as goal

abbrev pub invariant-loop-rest : goal.invariant-loop-rest
invariant-loop-rest l = Least (place l.left) (is_in l.initial.rest) (is_in l.rest) l.top l.best

abbrev pub decreases-loop-rest : goal.decreases-loop-rest
decreases-loop-rest l = count (is_in l.rest) 128
