use Rattle.std.proofs.Common.{◌≤◌, ◌*◌}
use Rattle.chart.proofs.core_rows.Rows.above.Given as goal

abbrev pub invariant-loop-i : goal.invariant-loop-i
invariant-loop-i l = (l.i-end ≤ 10) × (l.rows ≤ 256 * l.i)
