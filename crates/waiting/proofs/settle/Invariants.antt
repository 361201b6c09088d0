use mathlib.Core.Bool.{◌||◌}
use Rattle.model.specs.Places.{count}
use Rattle.vset.specs.Members.{is_in, Members}
use Rattle.waiting.specs.Waiting.{edges_by, Unsettled}
use Rattle.waiting.proofs.settle.Given as goal

abbrev pub invariant-loop-busy : goal.invariant-loop-busy
invariant-loop-busy l = Unsettled l.edge (edges_by l.starts) l.waiting (is_in l.busy) (is_in l.hind) (is_in l.rest) × (Members l.hind (is_in l.hind) × Members l.rest (is_in l.rest))

abbrev pub decreases-loop-busy : goal.decreases-loop-busy
decreases-loop-busy l = count (λ v. (is_in l.busy v || is_in l.hind v) || is_in l.rest v) 128
