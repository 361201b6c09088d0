use mathlib.Core.Path.{ap, ◌∙◌, sym}
use mathlib.Core.Bool.{not}
use native.Mathlib.Omega.{arith}
use borrow.Author.Rules.{rules}
use Rattle.model.proofs.Places.{first-at, first-none}
use Rattle.lanes.proofs.lowest_free.Goals as goal

pub returns-then-not-test : goal.returns-then-not-test
returns-then-not-test c =
    let l = c.loop-j in
    (sym (first-at _ _ _ (search rules) l.invariant (ap not (sym c.test.ensures ∙ c.if-not-test.true))), search rules)

pub returns : goal.returns
returns c =
    let l = c.loop-j in
    (sym (first-none _ _ (λ j h. l.invariant j (omega arith))), search rules)
