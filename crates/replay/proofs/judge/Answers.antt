use mathlib.Core.Path.{sym}
use Rattle.std.proofs.lemmas.Result.{err_from_is_err_and}
use Rattle.graph.specs.Model.{as_model}
use Rattle.recorded.specs.Log.{InForm}
use Rattle.formed.proofs.Forming.{form_refused, form_accepted}
use Rattle.replay.proofs.judge.Goals as goal
use Rattle.replay.proofs.judge.Goals.{In_ok-judge}

in_form : (t : In_ok-judge) → InForm t.args.laid.now.graph.n t.args.log.now
unfolding as_model
in_form t = form_accepted (as_model t.args.laid.now.graph) t.args.log.now t.args.room (sym t.in_ok-judge.ensures)

pub returns-in_err-judge : goal.returns-in_err-judge
unfolding as_model
returns-in_err-judge c =
    let p = err_from_is_err_and c.from_residual.result c.from_residual.ensures.1 in
    rw (p.1, p.2) (form_refused (as_model c.args.laid.now.graph) c.args.log.now c.args.room _ (sym c.in_err-judge.ensures))

pub add_up-requires : goal.add_up-requires
add_up-requires c = (c.requires.accepted.few_vertices, in_form (goal.at.add_up-requires c).In_ok-judge)

pub ruled-requires-clause-in_form : goal.ruled-requires-clause-in_form
ruled-requires-clause-in_form c =
    (in_form (goal.at.ruled-requires-clause-in_form c).In_ok-judge, c.add_up.ensures.totals, c.add_up.ensures.lasts)
