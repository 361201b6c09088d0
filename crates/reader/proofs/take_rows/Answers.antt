use mathlib.Core.Path.{◌≡◌, refl, sym, ◌∙◌}
use mathlib.Core.Bool.{false}
use Prim.Native.Nat.{◌+◌, ◌≤◌}
use native.Mathlib.Omega.{arith}
use Rattle.std.proofs.lemmas.Result.{err_from_is_err_and}
use Rattle.graph.specs.Rules.{rule1}
use Rattle.graph.proofs.Judging.{short}
use Rattle.reader.specs.Steps.{Edged}
use Rattle.reader.proofs.Laying.{taken-first, taken_not, fit_lists, laid, rows-into}
use Rattle.reader.proofs.take_rows.Goals as goal

pub returns-then-wrong_length-clause-taken_into : goal.returns-then-wrong_length-clause-taken_into
returns-then-wrong_length-clause-taken_into c = rw c.whole.ensures (taken-first (sym c.wrong_length.ensures ∙ c.if-wrong_length.true))

pub returns-then-wrong_length-clause-rows_into : goal.returns-then-wrong_length-clause-rows_into
returns-then-wrong_length-clause-rows_into c = rows-into {l = c.args.laid.now} (taken-first (sym c.wrong_length.ensures ∙ c.if-wrong_length.true))

pub take_edges-requires-clause-file_len_bound : goal.take_edges-requires-clause-file_len_bound
take_edges-requires-clause-file_len_bound c =
    let f : rule1 c.args.file.now ≡ false = sym c.wrong_length.ensures ∙ c.if-wrong_length.false in
    omega (arith, short _ f)

pub returns-in_err-c-clause-taken_into : goal.returns-in_err-c-clause-taken_into
returns-in_err-c-clause-taken_into c =
    let p = err_from_is_err_and c.from_residual.result c.from_residual.ensures.1 in
    rw (p.1, p.2) (taken_not (sym c.wrong_length.ensures ∙ c.if-wrong_length.false) (sym c.in_err-c.ensures.answer))

pub returns-in_err-c-clause-rows_into : goal.returns-in_err-c-clause-rows_into
returns-in_err-c-clause-rows_into c = rows-into {l = c.take_edges.new.laid} (taken_not (sym c.wrong_length.ensures ∙ c.if-wrong_length.false) (sym c.in_err-c.ensures.answer))

pub column_of-requires : goal.column_of-requires
column_of-requires c =
    let E = c.in_ok-c.ensures.edged c.in_ok-c.c refl in
    let f = fit_lists c.args.file.now c.in_ok-c.c (λ i. (c.shared_slice_known-1.given i).fits) (sym c.in_ok-c.ensures.answer) E.counted in
    (omega arith, ((f.0, omega (arith, f.2)), E.drawn.cores_zero))

pub column_of-requires-2 : goal.column_of-requires-2
column_of-requires-2 c =
    let E = c.in_ok-c.ensures.edged c.in_ok-c.c refl in
    let f = fit_lists c.args.file.now c.in_ok-c.c (λ i. (c.shared_slice_known-1.given i).fits) (sym c.in_ok-c.ensures.answer) E.counted in
    (omega arith, ((f.1, f.2), E.drawn.kind_zero))

pub wcet_of-requires : goal.wcet_of-requires
wcet_of-requires c =
    let E = c.in_ok-c.ensures.edged c.in_ok-c.c refl in
    let f = fit_lists c.args.file.now c.in_ok-c.c (λ i. (c.shared_slice_known-1.given i).fits) (sym c.in_ok-c.ensures.answer) E.counted in
    record { n_bound = (f.1, f.2); a_value = E.drawn.wcet_zero }

pub returns : goal.returns
returns c =
    let E = c.in_ok-c.ensures.edged c.in_ok-c.c refl in
    let T = laid c.args.file.now c.in_ok-c.c c.take_edges.new.laid _ _ _ (sym c.wrong_length.ensures ∙ c.if-wrong_length.false) (sym c.in_ok-c.ensures.answer) E c.column_of.ensures c.column_of-2.ensures c.wcet_of.ensures in
    record { taken_into = T; rows_into = rows-into T }
