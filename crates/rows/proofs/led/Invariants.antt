use mathlib.Core.Path.{◌≡◌}
use Rattle.model.specs.Places.{padded}
use Rattle.rows.specs.Rows.{led_by}
use Rattle.rows.proofs.led.Given as goal

abbrev pub invariant-loop-v : goal.invariant-loop-v
invariant-loop-v l = l.list ≡ padded 128 (led_by l.pred) l.v
