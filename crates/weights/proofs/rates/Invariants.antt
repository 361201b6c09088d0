use mathlib.Core.Path.{◌≡◌}
use Rattle.model.specs.Places.{padded}
use Rattle.weights.specs.Weight.{rates_of}
use Rattle.weights.proofs.rates.Given as goal

abbrev pub invariant-loop-s : goal.invariant-loop-s
invariant-loop-s l = (l.list ≡ padded 10 (rates_of l.by l.cores) l.s)
