use mathlib.Core.Path.{◌≡◌}
use Prim.Native.Nat.{◌*◌}
use lib.ListN.{length}
use Rattle.wire.specs.Payload.{four_bytes, laid_over}
use Rattle.wire.proofs.words.Given as goal

abbrev pub invariant-loop-i : goal.invariant-loop-i
invariant-loop-i l = (length l.list ≡ length l.initial.list) × (l.list ≡ laid_over (λ k. four_bytes l.p (4 * k)) l.i l.initial.list)
