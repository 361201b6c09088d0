use Rattle.graph.specs.declared.Graph.{Graph}
use Rattle.vset.specs.Members.{is_in}
use Rattle.remains.specs.Remains.{place}
use Rattle.tick.specs.Lists.{GraphOf}
use Rattle.leaps.specs.Leaps.{work_of, Timed}
use Rattle.leaps.proofs.Stopping.{Playing, leaps_left}
use Rattle.leaps.proofs.up_to.Given as goal

abbrev pub invariant-loop-m : goal.invariant-loop-m
invariant-loop-m l =
    (g : Graph) → GraphOf g l.kinds l.n l.cores l.kind l.edge l.starts → Timed g l.initial.left l.initial.waiting → Playing g (place l.initial.left) l.d (work_of g l.m l.left l.waiting l.finishes)

abbrev pub decreases-loop-m : goal.decreases-loop-m
decreases-loop-m l = leaps_left l.d l.m.instant (is_in l.m.busy)
