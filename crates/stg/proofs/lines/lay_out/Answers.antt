use mathlib.Core.Path.{sym, ◌∙◌}
use Rattle.stg.proofs.Reached.{handed, fault-of, faulted_laid, all-inside}
use Rattle.stg.proofs.lines.lay_out.Goals as goal

pub returns-in_err-count : goal.returns-in_err-count
returns-in_err-count c =
    let F = fault-of c.count_at.result 0 _ (sym c.in_err-count.was ∙ c.ok_or.ensures.value) in
    rw (handed _ _ c.from_residual.ensures.1, F.1) (faulted_laid c.args.text.now (record { line = 0 }) c.requires.text_len_bound (rw F.0 at c.count_at.ensures))

pub returns-in_err-at : goal.returns-in_err-at
returns-in_err-at c =
    rw (handed _ _ c.from_residual-in_err-at.ensures.1) (faulted_laid c.args.text.now _ c.requires.text_len_bound (rw c.in_err-at.was at c.tasks_at.ensures))

pub returns-in_err-comments_at : goal.returns-in_err-comments_at
returns-in_err-comments_at c =
    rw (handed _ _ c.from_residual-in_err-comments_at.ensures.1) (faulted_laid c.args.text.now _ c.requires.text_len_bound (rw c.in_err-comments_at.was at c.comments_at.ensures))

pub returns : goal.returns
returns c =
    let C = rw c.in_ok-count.ensures.ok_part at c.count_at.ensures in
    let T = rw c.in_ok-at.was at c.tasks_at.ensures in
    (all-inside c.args.text.now c.requires.text_len_bound (rw c.in_ok-comments_at.was at c.comments_at.ensures), C.0, C.1, T.1)
