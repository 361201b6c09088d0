use Rattle.texts.specs.Text.{byte_at, stops}
use Rattle.texts.proofs.Cutting.{Passed}
use Rattle.texts.proofs.until.Given as goal

abbrev pub invariant-loop-i : goal.invariant-loop-i
invariant-loop-i l = Passed (λ k. stops l.what (byte_at l.t k)) l.at l.i
