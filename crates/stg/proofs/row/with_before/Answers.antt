use mathlib.Core.Path.{sym, ◌∙◌}
use Rattle.stg.proofs.Kept.{above-taken, twice-taken, within-taken}
use borrow.Author.Rules.{rules}
use Rattle.stg.proofs.row.with_before.Goals as goal

pub returns-then-n-x : goal.returns-then-n-x
returns-then-n-x c = λ xs H. above-taken c.args.n c.args.x c.args.row xs (search rules) c.if-n-x.true H

pub returns-then-test : goal.returns-then-test
returns-then-test c = λ xs H. twice-taken c.args.n c.args.x c.args.row xs (search rules) (search rules) H (sym c.test.ensures ∙ c.if-test.true)

pub returns : goal.returns
returns c = λ xs H. within-taken c.args.n c.args.x c.args.row xs (search rules) (search rules) H (sym c.test.ensures ∙ c.if-test.false) c.with.result c.with.ensures
