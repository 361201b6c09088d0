use native.Mathlib.Numerals.{add-one}
use mathlib.Core.Path.{sym, ◌∙◌}
use borrow.Author.Rules.{rules}
use Rattle.stg.proofs.Reached.{handed, fault-of, comment-further, comment_faulted, comments_end}
use Rattle.stg.proofs.lines.comments_at.Goals as goal

pub returns-in_err-i : goal.returns-in_err-i
returns-in_err-i c =
    let l = c.loop-i in
    let F = fault-of c.comment_at.result l.k _ (sym c.in_err-i.was ∙ c.ok_or.ensures.value) in
    rw (handed _ _ c.from_residual.ensures.1, F.1) (comment_faulted c.args.text.now l.k l.i l.invariant.0 l.invariant.1 c.loop-i-test.true (rw F.0 at c.comment_at.ensures))

pub loop-i-preserved : goal.loop-i-preserved
loop-i-preserved c =
    let l = c.loop-i in
    let C = rw c.in_ok-i.ensures.ok_part at c.comment_at.ensures in
    (search rules, rw (add-one l.k) (comment-further c.args.text.now l.k l.i l.invariant.0 l.invariant.1 _ C))

pub returns : goal.returns
returns c =
    let l = c.loop-i in
    comments_end c.args.text.now l.k l.i l.invariant.0 l.invariant.1 c.loop-i-test.false
