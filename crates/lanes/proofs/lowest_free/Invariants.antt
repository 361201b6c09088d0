use mathlib.Core.Path.{◌≡◌}
use mathlib.Core.Bool.{false, not}
use Prim.Native.Nat.{ℕ, ◌<◌}
use Rattle.vset.specs.Members.{is_in}
use Rattle.lanes.proofs.lowest_free.Given as goal

abbrev pub invariant-loop-j : goal.invariant-loop-j
invariant-loop-j l = (i : ℕ) → i < l.j → not (is_in l.busy i) ≡ false
