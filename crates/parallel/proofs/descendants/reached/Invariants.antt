use Prim.Native.Nat.{◌-◌, ◌≤◌}
use Rattle.vset.specs.Members.{Members}
use Rattle.summary.specs.Row.{many}
use Rattle.parallel.specs.Rows.{reached_by}
use Rattle.parallel.proofs.descendants.reached.Given as goal

abbrev pub invariant-loop-k : goal.invariant-loop-k
invariant-loop-k l =
    Members l.got (reached_by l.edge l.start l.t l.u l.k)
