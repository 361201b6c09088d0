use lib.Dec.{eqb}
use Rattle.model.specs.Places.{any}
use Rattle.vset.specs.Members.{Members}
use Rattle.starts.specs.Starts.{comes_from}
use Rattle.stg_writer.proofs.before.leading.Given as goal

abbrev pub invariant-loop-i : goal.invariant-loop-i
invariant-loop-i l = Members l.some (λ u. any (λ i. eqb (comes_from l.edge i) u) l.i)
