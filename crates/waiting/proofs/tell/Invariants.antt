use Rattle.vset.specs.Members.{is_in}
use Rattle.waiting.specs.Waiting.{Told}
use Rattle.waiting.proofs.tell.Given as goal

abbrev pub invariant-loop-i : goal.invariant-loop-i
invariant-loop-i l = Told l.edge l.start l.i l.initial.waiting (is_in l.busy) l.initial.told l.waiting l.told
