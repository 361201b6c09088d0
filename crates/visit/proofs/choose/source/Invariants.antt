use mathlib.Core.Path.{◌≡◌}
use Prim.Native.Nat.{◌-◌, ◌≤◌}
use Rattle.model.specs.Places.{sum}
use Rattle.ways.specs.Counts.{from_source_of}
use Rattle.visit.proofs.choose.source.Given as goal

abbrev pub invariant-loop-v : goal.invariant-loop-v
invariant-loop-v l =
    (l.base ≡ sum (from_source_of l.led l.ways) l.v) × (l.base ≤ l.k)
