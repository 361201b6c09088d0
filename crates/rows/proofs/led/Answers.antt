use mathlib.Core.Path.{ap, ◌∙◌}
use mathlib.Core.Bool.{Bool, not}
use native.Mathlib.Omega.{arith}
use Rattle.model.specs.Places.{bit, any}
use Rattle.model.proofs.Tables.{padded-none, padded-more}
use Rattle.vset.specs.declared.Vset.{Vset}
use Rattle.vset.specs.Members.{is_in}
use Rattle.vset.proofs.Taking.{twice}
use Rattle.rows.specs.Rows.{led_by}
use Rattle.rows.proofs.led.Goals as goal

pub loop-v-init : goal.loop-v-init
loop-v-init c = padded-none 128 _

pub loop-v-preserved : goal.loop-v-preserved
unfolding led_by
loop-v-preserved c =
    let l = c.loop-v in
    let q = c.from.ensures ∙ ap (λ (b : Bool). bit (not b)) c.is_empty.ensures ∙ ap bit (twice (any (is_in c.row.result) 128)) ∙ ap (λ (x : Vset). bit (any (is_in x) 128)) c.row.ensures in
    rw (l.invariant, q) (padded-more 128 _ l.v (omega (arith, c.loop-v-test.true, c.requires)))
