use Prim.Native.Nat.{◌<◌}
use mathlib.Core.Path.{sym, ◌∙◌}
use native.Mathlib.Omega.{arith}
use lib.ListN.{length}
use Rattle.stg.proofs.Comments.{comment-nothing, comment_other, comment_open, comment-read}
use borrow.Author.Rules.{rules}
use Rattle.stg.proofs.comment.comment_at.Goals as goal

pub returns-then-p-text : goal.returns-then-p-text
returns-then-p-text c =
    comment-nothing c.args.text.now c.args.at (search rules) (sym c.skip-p.ensures.0 ∙ c.if-p-text.true)

pub returns-then-text-p-ne35 : goal.returns-then-text-p-ne35
returns-then-text-p-ne35 c =
    let k = c.skip-p in
    let b : k.result < length c.args.text.now = omega (arith, c.if-p-text.false) in
    comment_other c.args.text.now c.args.at (search rules) (rw k.ensures.0 at b) (λ q. c.if-text-p-ne35.true (rw k.ensures.0 q))

pub returns-in_err-q : goal.returns-in_err-q
returns-in_err-q c =
    let k = c.skip-p in
    let b : k.result < length c.args.text.now = omega (arith, c.if-p-text.false) in
    rw c.from_residual.ensures (comment_open c.args.text.now c.args.at (search rules) (rw k.ensures.0 at b) (rw (← k.ensures.0) (sym c.feed_at.ensures.0 ∙ c.in_err-q.was)))

pub returns : goal.returns
returns c =
    let k = c.skip-p in
    let b : k.result < length c.args.text.now = omega (arith, c.if-p-text.false) in
    let f = rw c.in_ok-q.was at c.feed_at.ensures in
    comment-read c.args.text.now c.args.at (search rules) (rw k.ensures.0 at b) (rw k.ensures.0 at c.if-text-p-ne35.false) c.in_ok-q.q (rw k.ensures.0 at (sym f.0)) (rw k.ensures.0 at f.1.0) f.1.1
