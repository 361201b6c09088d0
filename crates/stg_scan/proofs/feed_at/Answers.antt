use mathlib.Core.Path.{sym, ◌∙◌}
use borrow.Author.Rules.{rules}
use Rattle.stg_scan.proofs.Going.{feed-here, feed-more, feed-end}
use Rattle.stg_scan.proofs.feed_at.Goals as goal

pub returns-then-feed : goal.returns-then-feed
returns-then-feed c =
    let l = c.loop-i in
    (sym (feed-here c.args.text.now l.i (search rules) (sym c.feed.ensures ∙ c.if-feed.true)) ∙ l.invariant, search rules)

pub loop-i-preserved : goal.loop-i-preserved
loop-i-preserved c =
    let l = c.loop-i in
    sym (feed-more c.args.text.now l.i (search rules) (sym c.feed.ensures ∙ c.if-feed.false)) ∙ l.invariant

pub returns : goal.returns
returns c =
    let l = c.loop-i in
    (sym (feed-end c.args.text.now l.i (search rules)) ∙ l.invariant, search rules)
