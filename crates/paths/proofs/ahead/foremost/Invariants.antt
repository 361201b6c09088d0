use Rattle.paths.proofs.Heads.{Looked}
use Rattle.paths.proofs.ahead.foremost.Given as goal

abbrev pub invariant-loop-v : goal.invariant-loop-v
invariant-loop-v l = Looked l.weight l.sums l.led l.n l.v l.head l.most
