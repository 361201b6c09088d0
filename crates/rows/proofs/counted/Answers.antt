use mathlib.Core.Path.{ap, ◌∙◌}
use native.Mathlib.Omega.{arith}
use Rattle.model.specs.Places.{count}
use Rattle.model.proofs.Places.{count-le}
use Rattle.model.proofs.Tables.{padded-none, padded-more}
use Rattle.vset.specs.declared.Vset.{Vset}
use Rattle.vset.specs.Members.{is_in}
use Rattle.rows.specs.Rows.{ones_among}
use Rattle.rows.proofs.counted.Goals as goal

pub loop-v-init : goal.loop-v-init
loop-v-init c = padded-none 128 _

pub overflow_cast-list : goal.overflow_cast-list
overflow_cast-list c = omega (arith, c.size.ensures, count-le (is_in c.row.result) 128)

pub loop-v-preserved : goal.loop-v-preserved
unfolding ones_among
loop-v-preserved c =
    let l = c.loop-v in
    let q = c.size.ensures ∙ ap (λ (r : Vset). count (is_in r) 128) c.row.ensures in
    rw (l.invariant, q) (padded-more 128 _ l.v (omega (arith, c.loop-v-test.true, c.requires)))
