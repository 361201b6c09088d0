use mathlib.Core.Path.{sym, ◌∙◌}
use mathlib.Core.Bool.{false}
use native.Mathlib.Omega.{arith}
use borrow.Author.Count.{below_none, below_more}
use Rattle.model.proofs.Places.{first-at, first-none}
use borrow.Author.Rules.{rules}
use Rattle.reader.proofs.numbers.scan.Goals as goal

pub loop-k-init : goal.loop-k-init
loop-k-init c = (c.start-p.ensures _, below_none _)

pub record_fails-requires : goal.record_fails-requires
record_fails-requires c = (search rules, c.loop-k.invariant.0, c.requires)

pub returns-then-record_fails : goal.returns-then-record_fails
returns-then-record_fails c =
    sym (first-at _ _ _ (search rules) c.loop-k.invariant.1 (sym c.record_fails.ensures ∙ c.if-record_fails.true))

pub pass-p-requires : goal.pass-p-requires
pass-p-requires c = (search rules, c.loop-k.invariant.0)

pub loop-k-preserved : goal.loop-k-preserved
loop-k-preserved c =
    (c.pass-p.ensures, below_more _ _ c.loop-k.invariant.1 (sym c.record_fails.ensures ∙ c.if-record_fails.false))

pub returns : goal.returns
returns c = sym (first-none _ _ (λ j h. c.loop-k.invariant.1 j (omega arith)))
