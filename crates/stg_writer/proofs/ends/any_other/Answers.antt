use mathlib.Core.Path.{◌≡◌, refl, sym, ◌∙◌}
use native.Mathlib.Omega.{arith}
use borrow.Author.Rules.{rules}
use Rattle.model.specs.Places.{any}
use Rattle.model.proofs.Places.{any-more, any_intro}
use Rattle.stg_writer.specs.Before.{other_end_of}
use Rattle.stg_writer.proofs.ends.any_other.Goals as goal

pub loop-v-init : goal.loop-v-init
unfolding any
loop-v-init c = refl

pub returns-then-other_end : goal.returns-then-other_end
returns-then-other_end c =
    let l = c.loop-v in
    let a = c.args in
    sym (any_intro (other_end_of a.n a.before.now a.some) a.n l.v (search rules) (sym c.other_end.ensures ∙ c.if-other_end.true))

pub loop-v-preserved : goal.loop-v-preserved
loop-v-preserved c =
    let l = c.loop-v in
    let a = c.args in
    any-more (other_end_of a.n a.before.now a.some) l.v ∙ rw l.invariant (sym c.other_end.ensures ∙ c.if-other_end.false)

pub returns : goal.returns
returns c =
    let l = c.loop-v in
    let a = c.args in
    let e : l.v ≡ a.n = omega arith in
    rw e at (sym l.invariant)
