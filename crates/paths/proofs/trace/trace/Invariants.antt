use Prim.Native.Nat.{◌-◌}
use Rattle.graph.specs.Model.{as_model}
use Rattle.graph.specs.declared.Graph.{Graph}
use Rattle.paths.specs.Ahead.{weigh}
use Rattle.paths.specs.Trace.{Traceable}
use Rattle.paths.proofs.Tracing.{Tracing}
use Rattle.paths.proofs.trace.trace.Given as goal

abbrev pub invariant-loop-v : goal.invariant-loop-v
invariant-loop-v l =
    (g : Graph) → Traceable g l.edge l.start l.weight l.sums l.head l.initial.out → Tracing (as_model g) (weigh l.weight) (weigh l.sums) l.head l.initial.out l.out l.count l.v

abbrev pub decreases-loop-v : goal.decreases-loop-v
decreases-loop-v l = 128 - l.count
