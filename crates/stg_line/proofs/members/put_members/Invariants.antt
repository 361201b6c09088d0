use Rattle.model.specs.Places.{count}
use Rattle.vset.specs.Members.{is_in}
use Rattle.stg_line.proofs.Laying.{Going}
use Rattle.stg_line.proofs.members.put_members.Given as goal

abbrev pub invariant-loop-rest : goal.invariant-loop-rest
invariant-loop-rest l = Going (is_in l.initial.rest) l.initial.out l.at (is_in l.rest) l.i l.out

abbrev pub decreases-loop-rest : goal.decreases-loop-rest
decreases-loop-rest l = count (is_in l.rest) 128
