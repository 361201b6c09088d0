use mathlib.Core.Path.{◌≡◌, refl, sym, ap, ◌∙◌}
use Rattle.std.proofs.lemmas.Result.{err_from_is_err_and}
use Rattle.graph.specs.Answer.{Refused}
use Rattle.reader.proofs.Taking.{refused-found, cycle-refused, acyclic-accepted}
use Rattle.reader.proofs.Laying.{faultless}
use Rattle.reader.proofs.take_edges.Goals as goal

pub returns-in_err-c-clause-answer : goal.returns-in_err-c-clause-answer
returns-in_err-c-clause-answer c =
    let p = err_from_is_err_and c.from_residual.result c.from_residual.ensures.1 in
    rw (p.1, p.2) (sym (refused-found _ c.in_err-c.field-0.0 (sym c.in_err-c.ensures.answer)))

pub holds_cycle-requires-clause-faultless : goal.holds_cycle-requires-clause-faultless
holds_cycle-requires-clause-faultless c = faultless _ c.in_ok-c.ensures refl

pub returns-then-holds_cycle-clause-answer : goal.returns-then-holds_cycle-clause-answer
returns-then-holds_cycle-clause-answer c =
    let F = faultless _ c.in_ok-c.ensures refl in
    ap Refused c.whole.ensures ∙ sym (cycle-refused _ F.quiet (sym c.holds_cycle.ensures.cycle ∙ c.if-holds_cycle.true))

pub returns-clause-answer : goal.returns-clause-answer
returns-clause-answer c =
    let F = faultless _ c.in_ok-c.ensures refl in
    sym (acyclic-accepted _ F.quiet (sym c.holds_cycle.ensures.cycle ∙ c.if-holds_cycle.false))
