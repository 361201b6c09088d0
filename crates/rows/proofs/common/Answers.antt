use mathlib.Core.Path.{ap, ◌∙◌}
use mathlib.Core.Bool.{◌&&◌}
use Rattle.model.proofs.Places.{count_ext}
use Rattle.vset.specs.declared.Vset.{Vset}
use Rattle.vset.specs.Members.{is_in}
use Rattle.rows.proofs.common.Goals as goal

pub returns : goal.returns
returns c =
    let s = c.args.s in
    c.size.ensures ∙ count_ext _ _ 128 (λ u l. c.both.ensures.are u ∙ ap (λ (r : Vset). is_in r u && is_in s u) c.row.ensures)
