use mathlib.Core.Path.{◌≡◌}
use mathlib.Core.Bool.{◌&&◌}
use Prim.Native.Nat.{ℕ, ◌<◌}
use lib.Dec.{eqb, ltb}
use lib.ListN.{get_or, length}
use Rattle.vset.specs.Members.{Members}
use Rattle.choice.specs.Choice.{set_at_of}
use Rattle.choice.proofs.of_kinds.Given as goal

abbrev pub invariant-loop-v : goal.invariant-loop-v
invariant-loop-v l =
    (length l.words ≡ 20) × ((k : ℕ) → k < 10 → Members (set_at_of l.words k) (λ u. ltb u l.v && eqb (get_or l.kind u 0) k))
