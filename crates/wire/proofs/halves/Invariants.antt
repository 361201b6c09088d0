use mathlib.Core.Path.{◌≡◌}
use Prim.Native.Nat.{◌*◌}
use lib.ListN.{length}
use Rattle.wire.specs.Payload.{two_bytes, laid_over}
use Rattle.wire.proofs.halves.Given as goal

abbrev pub invariant-loop-i : goal.invariant-loop-i
invariant-loop-i l = (length l.list ≡ length l.initial.list) × (l.list ≡ laid_over (λ k. two_bytes l.p (2 * k)) l.i l.initial.list)
