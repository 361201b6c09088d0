use mathlib.Core.Path.{◌≡◌}
use lib.ListN.{drop}
use Rattle.stg_scan.specs.Scan.{feed_at_of}
use Rattle.stg_scan.proofs.feed_at.Given as goal

abbrev pub invariant-loop-i : goal.invariant-loop-i
invariant-loop-i l = feed_at_of l.i (drop l.i l.text) ≡ feed_at_of l.at (drop l.at l.text)
