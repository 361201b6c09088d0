use Rattle.summary.specs.Row.{Told}
use Rattle.gaining.specs.Passing.{onward, Led}
use Rattle.gaining.proofs.passing.lead.Given as goal

abbrev pub invariant-loop-k : goal.invariant-loop-k
invariant-loop-k l =
    Told l.edge l.start (onward l.starting l.sum) l.u l.k l.initial.best l.best × Led l.edge l.start (onward l.starting l.sum) l.u l.k l.initial.next l.next
