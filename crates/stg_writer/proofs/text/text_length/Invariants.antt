use Prim.Native.Nat.{◌+◌, ◌*◌, ◌≤◌}
use mathlib.Core.Path.{◌≡◌}
use lib.ListN.{length}
use Rattle.stg_writer.specs.Before.{lines_in}
use Rattle.stg_writer.proofs.text.text_length.Given as goal

abbrev pub invariant-loop-v : goal.invariant-loop-v
invariant-loop-v l = (l.size ≡ length (lines_in l.n l.before l.wcet l.v)) × (l.size ≤ 10 + 600 * l.v)
