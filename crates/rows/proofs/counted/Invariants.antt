use mathlib.Core.Path.{◌≡◌}
use Rattle.model.specs.Places.{padded}
use Rattle.rows.specs.Rows.{ones_among}
use Rattle.rows.proofs.counted.Given as goal

abbrev pub invariant-loop-v : goal.invariant-loop-v
invariant-loop-v l = l.list ≡ padded 128 (ones_among l.pred) l.v
