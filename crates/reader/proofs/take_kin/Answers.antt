use mathlib.Core.Path.{◌≡◌, refl, sym, ap, ◌∙◌}
use Rattle.std.proofs.lemmas.Result.{err_from_is_err_and}
use Rattle.reader.proofs.Laying.{lined, kin_not, rows-into}
use Rattle.reader.proofs.take_kin.Goals as goal

pub ancestors-requires-clause-lined : goal.ancestors-requires-clause-lined
ancestors-requires-clause-lined c =
    let T = c.in_ok-take_rows.ensures.taken_into in
    (_, lined c.args.file.now c.take_rows.new.laid T (λ i. (c.shared_slice_known-1.given i).fits) (sym T.answer))

pub returns-in_err-take_rows-clause-kin_into : goal.returns-in_err-take_rows-clause-kin_into
returns-in_err-take_rows-clause-kin_into c = kin_not c.args.file.now (sym c.in_err-take_rows.ensures.taken_into.answer)

pub returns-clause-kin_into : goal.returns-clause-kin_into
returns-clause-kin_into c =
    let T = c.in_ok-take_rows.ensures.taken_into in
    λ p. record { predecessors = rows-into T p; ancestors = c.ancestors.ensures _ (lined c.args.file.now c.take_rows.new.laid T (λ i. (c.shared_slice_known-1.given i).fits) p) }
