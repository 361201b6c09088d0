use Rattle.records.specs.Passing.{Before}
use Rattle.records.proofs.count_all.Given as goal

abbrev pub invariant-loop-k : goal.invariant-loop-k
invariant-loop-k l = Before l.file l.k l.p
