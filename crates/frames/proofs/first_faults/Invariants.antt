use Rattle.frames.specs.Frames.{PassedBy}
use Rattle.frames.proofs.first_faults.Given as goal

abbrev pub invariant-loop-k : goal.invariant-loop-k
invariant-loop-k l = PassedBy l.laid l.log l.k l.used l.waiting l.p
