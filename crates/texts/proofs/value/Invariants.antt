use Rattle.std.proofs.Common.{◌≡◌, ◌<◌}
use Rattle.texts.specs.Text.{decimal}
use Rattle.texts.proofs.value.Given as goal

abbrev pub invariant-loop-b : goal.invariant-loop-b
invariant-loop-b l = (l.n ≡ decimal l.w l.b-index) × (l.n < 4294967296)
