use Prim.Native.Nat.{ℕ, ◌<◌}
use mathlib.Core.Path.{◌≡◌}
use mathlib.Core.Bool.{false, not}
use Rattle.plain.specs.Plain.{vertex_row_of}
use Rattle.plain.proofs.vertices.Given as goal

abbrev pub invariant-loop-v : goal.invariant-loop-v
invariant-loop-v l = (j : ℕ) → j < l.v → not (vertex_row_of l.file l.a j) ≡ false
