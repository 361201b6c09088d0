use mathlib.Core.Path.{sym, ap, ◌∙◌}
use mathlib.Core.List.{List, ◌++◌}
use Prim.Native.Nat.{ℕ}
use lib.ListN.{drop, length-take}
use native.Mathlib.Omega.{arith}
use Rattle.std.proofs.lemmas.Result.{err_from_is_err_and}
use Rattle.lent.proofs.Firsts.{handed}
use Rattle.replay.proofs.Answers.{on-refused, on_form, on_room, on-finish, on-times}
use Rattle.replay.proofs.replay_on.Goals as goal

pub returns-in_err-totals-clause-value : goal.returns-in_err-totals-clause-value
returns-in_err-totals-clause-value c =
    let p = err_from_is_err_and c.from_residual.result c.from_residual.ensures.1 in
    rw (p.1, p.2) (sym (on-refused _ _ _ c.in_err-totals.ensures))

pub hand_over-requires : goal.hand_over-requires
hand_over-requires c =
    omega (arith, c.requires.accepted.few_vertices, on_room c.requires.accepted _ _ c.in_ok-totals.ensures.0, length-take c.args.laid.now.graph.n c.in_ok-totals.totals)

pub last-requires : goal.last-requires
last-requires c = (c.requires.accepted.few_vertices, on_form c.requires.accepted _ _ c.in_ok-totals.ensures.0)

pub returns : goal.returns
returns c =
    let j = c.in_ok-totals.ensures in
    record {
      value = sym (on-finish c.requires.accepted _ _ j.0 c.last.result c.last.ensures.0);
      times_after = handed c.in_ok-totals.totals _ _ c.args.laid.now.graph.n (omega (arith, c.requires.accepted.few_vertices)) c.hand_over.ensures ∙ ap (λ (x : List ℕ). x ++ drop c.args.laid.now.graph.n c.args.times.now) (on-times j.1);
    }
