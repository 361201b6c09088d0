use mathlib.Core.Path.{◌≡◌, refl, sym}
use Rattle.std.proofs.lemmas.Result.{err_from_is_err_and}
use Rattle.graph.specs.Answer.{Accepted}
use Rattle.reader.specs.Laid.{Usable}
use Rattle.reader.proofs.Laying.{usable}
use Rattle.times.specs.Times.{judge_times}
use Rattle.times.proofs.Fits.{times_fit}
use Rattle.late.proofs.Answers.{late-unread, late_untimed, late-told}
use Rattle.late.proofs.late.Goals as goal
use Rattle.late.proofs.late.Goals.{In_ok-take_rows, In_ok-judge}

-- what was laid is an accepted graph
laid : (t : In_ok-take_rows) → Usable t.take_rows.new.laid
laid t = usable t.in_ok-take_rows.ensures.taken_into (λ i. (t.shared_slice_known-1.given i).fits)

pub returns-in_err-take_rows : goal.returns-in_err-take_rows
returns-in_err-take_rows c =
    let p = err_from_is_err_and c.from_residual.result c.from_residual.ensures.1 in
    rw (p.1, p.2) (late-unread c.args.times.now c.args.d c.in_err-take_rows.ensures.taken_into)

pub judge-requires : goal.judge-requires
judge-requires c = (laid (goal.at.judge-requires c).In_ok-take_rows).accepted.few_vertices

pub returns-in_err-judge : goal.returns-in_err-judge
returns-in_err-judge c =
    let r = c.from_residual-in_err-judge in
    let p = err_from_is_err_and r.result r.ensures.1 in
    rw (p.1, p.2) (late_untimed c.args.times.now c.args.d c.in_ok-take_rows.ensures.taken_into (sym (c.in_err-judge.ensures c.take_rows.new.laid.graph refl refl)))

-- the times fit
fit : (c : In_ok-judge) → judge_times c.take_rows.new.laid.graph c.args.times.now ≡ Accepted
fit c = sym (c.in_ok-judge.ensures c.take_rows.new.laid.graph refl refl)

pub decided-requires : goal.decided-requires
decided-requires c =
    record { usable = laid (goal.at.decided-requires c).In_ok-take_rows; fitting = times_fit c.take_rows.new.laid.graph _ (fit (goal.at.decided-requires c).In_ok-judge) }

pub returns : goal.returns
returns c =
    late-told c.args.times.now c.args.d c.in_ok-take_rows.ensures.taken_into (fit (goal.at.returns c).In_ok-judge) c.decided.ensures
