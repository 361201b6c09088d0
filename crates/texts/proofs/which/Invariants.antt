use Rattle.std.proofs.Common.{◌≡◌, ℕ, ◌<◌, false}
use Rattle.texts.specs.Text.{is_named_of}
use Rattle.texts.proofs.which.Given as goal

abbrev pub invariant-loop-k : goal.invariant-loop-k
invariant-loop-k l = (i : ℕ) → i < l.k → is_named_of l.t l.names l.w i ≡ false
