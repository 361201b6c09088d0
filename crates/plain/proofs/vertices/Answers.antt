use mathlib.Core.Path.{sym, ap, ◌∙◌}
use mathlib.Core.Bool.{not}
use native.Mathlib.Omega.{arith}
use borrow.Author.Count.{below_none, below_more}
use Rattle.model.proofs.Places.{first-at, first-none}
use Rattle.plain.specs.Plain.{vertices_in}
use Rattle.plain.proofs.vertices.Goals as goal

pub loop-v-init : goal.loop-v-init
loop-v-init c = below_none _

pub returns-then-not-vertex_row : goal.returns-then-not-vertex_row
unfolding vertices_in
returns-then-not-vertex_row c =
    let t = ap not (sym c.vertex_row.ensures) ∙ c.if-not-vertex_row.true-raw in
    let m = c.min-most.ensures in
    sym (first-at _ _ _ (omega (arith, m, c.loop-v-test.true)) c.loop-v.invariant t)

pub loop-v-preserved : goal.loop-v-preserved
loop-v-preserved c =
    below_more _ _ c.loop-v.invariant (ap not (sym c.vertex_row.ensures) ∙ c.if-not-vertex_row.false-raw)

pub returns : goal.returns
unfolding vertices_in
returns c =
    let m = c.min-most.ensures in
    m ∙ sym (first-none _ _ (λ j h. c.loop-v.invariant j (omega (arith, h, m, c.loop-v-test.false))))
