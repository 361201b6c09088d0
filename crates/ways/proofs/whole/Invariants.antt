use mathlib.Core.Path.{◌≡◌}
use Rattle.ways.specs.Counts.{whole_by}
use Rattle.ways.proofs.whole.Given as goal

abbrev pub invariant-loop-v : goal.invariant-loop-v
invariant-loop-v l =
    l.total ≡ whole_by l.led l.ways l.v
