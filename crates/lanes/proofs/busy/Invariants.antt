use lib.ListN.{get_or}
use Rattle.vset.specs.Members.{is_in, Members}
use Rattle.lanes.specs.Lanes.{taken}
use Rattle.lanes.proofs.busy.Given as goal

abbrev pub invariant-loop-u : goal.invariant-loop-u
invariant-loop-u l = Members l.got (taken (is_in l.held) (λ v. get_or l.core v 0) (λ v. get_or l.kind v 0) l.u l.s)
