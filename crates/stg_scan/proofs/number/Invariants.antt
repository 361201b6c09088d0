use Prim.Native.Nat.{◌-◌, ◌^◌, ◌≤◌, ◌<◌}
use mathlib.Core.Path.{◌≡◌}
use lib.ListN.{drop}
use Rattle.stg_scan.specs.Scan.{scan}
use Rattle.stg_scan.proofs.number.Given as goal

abbrev pub invariant-loop-i : goal.invariant-loop-i
invariant-loop-i l = (l.i - l.at ≤ 10) × (l.x < 10 ^ (l.i - l.at)) × (scan l.i (l.i - l.at) l.x (drop l.i l.text) ≡ scan l.at 0 0 (drop l.at l.text))
