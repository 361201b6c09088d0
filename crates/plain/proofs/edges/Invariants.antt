use Prim.Native.Nat.{ℕ, ◌<◌}
use mathlib.Core.Path.{◌≡◌}
use mathlib.Core.Bool.{false, not}
use Rattle.plain.specs.Plain.{edge_up, least_key}
use Rattle.plain.proofs.edges.Given as goal

abbrev pub invariant-loop-i : goal.invariant-loop-i
invariant-loop-i l = (l.least ≡ least_key l.file l.a l.i) × ((j : ℕ) → j < l.i → not (edge_up l.file l.a l.n j) ≡ false)
