use mathlib.Core.Path.{◌≡◌}
use Prim.Native.Nat.{◌+◌}
use Rattle.model.specs.Places.{count}
use Rattle.vset.specs.Members.{is_in, Members}
use Rattle.visit.specs.Cells.{total_of}
use Rattle.visit.proofs.gain.each.Given as goal

abbrev pub invariant-loop-rest : goal.invariant-loop-rest
invariant-loop-rest l = Members l.rest (is_in l.rest) × (l.total + total_of l.wcet (is_in l.rest) ≡ total_of l.wcet (is_in l.initial.rest))

abbrev pub decreases-loop-rest : goal.decreases-loop-rest
decreases-loop-rest l = count (is_in l.rest) 128
