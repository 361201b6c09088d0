use Rattle.model.specs.Places.{count}
use Rattle.vset.specs.Members.{is_in, Members}
use Rattle.rows.proofs.Gathering.{United}
use Rattle.rows.proofs.gather.Given as goal

abbrev pub invariant-loop-rest : goal.invariant-loop-rest
invariant-loop-rest l = Members l.got (is_in l.got) × (Members l.rest (is_in l.rest) × United l.t l.initial.rest l.got l.rest)

abbrev pub decreases-loop-rest : goal.decreases-loop-rest
decreases-loop-rest l = count (is_in l.rest) 128
