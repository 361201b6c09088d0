use mathlib.Core.Path.{◌≡◌}
use Prim.Native.Nat.{max}
use Rattle.summary.specs.Row.{most_over}
use Rattle.summary.proofs.starting.most.Given as goal

abbrev pub invariant-loop-k : goal.invariant-loop-k
invariant-loop-k l =
    l.most ≡ max 0 (most_over l.edge l.start l.sums l.u l.k)
