use Rattle.model.specs.Places.{count}
use Rattle.vset.specs.Members.{is_in}
use Rattle.stg.proofs.Cut.{Listing}
use Rattle.stg.proofs.edges.edges_from.Given as goal

abbrev pub invariant-loop-rest : goal.invariant-loop-rest
invariant-loop-rest l = Listing l.u l.initial.rest l.initial.m l.initial.list (is_in l.rest) l.m l.list

abbrev pub decreases-loop-rest : goal.decreases-loop-rest
decreases-loop-rest l = count (is_in l.rest) 128
