use mathlib.Core.Path.{◌≡◌}
use lib.ListN.{drop}
use Rattle.stg_scan.specs.Scan.{skip_at}
use Rattle.stg_scan.proofs.skip.Given as goal

abbrev pub invariant-loop-i : goal.invariant-loop-i
invariant-loop-i l = skip_at l.i (drop l.i l.text) ≡ skip_at l.at (drop l.at l.text)
