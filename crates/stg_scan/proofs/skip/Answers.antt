use mathlib.Core.Path.{◌≡◌, sym, ◌∙◌}
use native.Mathlib.Omega.{arith}
use lib.ListN.{length}
use borrow.Author.Rules.{rules}
use Rattle.stg_scan.proofs.Going.{skip-here, skip-more, skip-end}
use Rattle.stg_scan.proofs.skip.Goals as goal

pub returns-then-not-blank : goal.returns-then-not-blank
returns-then-not-blank c =
    let l = c.loop-i in
    (sym (skip-here c.args.text.now l.i (search rules) (sym c.blank.ensures ∙ c.if-not-blank.true)) ∙ l.invariant, search rules, search rules)

pub loop-i-preserved : goal.loop-i-preserved
loop-i-preserved c =
    let l = c.loop-i in
    sym (skip-more c.args.text.now l.i (search rules) (sym c.blank.ensures ∙ c.if-not-blank.false)) ∙ l.invariant

pub returns : goal.returns
returns c =
    let l = c.loop-i in
    let e : l.i ≡ length c.args.text.now = omega arith in
    (rw e at (sym (skip-end c.args.text.now l.i (search rules)) ∙ l.invariant), search rules, search rules)
