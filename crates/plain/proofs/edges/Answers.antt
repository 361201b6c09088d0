use mathlib.Core.Path.{◌≡◌, refl, sym, ap, ◌∙◌}
use mathlib.Core.Bool.{not, ◌&&◌}
use native.Mathlib.Omega.{arith}
use borrow.Author.Count.{below_none, below_more}
use lib.Dec.{leb}
use Rattle.model.proofs.Places.{first-at, first-none}
use Rattle.plain.specs.Plain.{edge_up, least_key, edges_in}
use Rattle.plain.proofs.Passed.{least_more}
use Rattle.plain.proofs.edges.Goals as goal
use Rattle.plain.proofs.edges.Goals.{After-edge_row}

pub loop-i-init : goal.loop-i-init
loop-i-init c = (unfold least_key in refl, below_none _)

-- what is tested is the next edge
tested : (c : After-edge_row)
    → c.edge_row.result && leb c.loop-i.least c.key-edge.result
    ≡ edge_up c.args.file.now c.args.a c.args.n c.loop-i.i
unfolding edge_up
tested c = rw (c.edge_row.ensures, c.key-edge.ensures.0, c.loop-i.invariant.0) refl

pub returns-then-not-edge_row-least : goal.returns-then-not-edge_row-least
unfolding edges_in
returns-then-not-edge_row-least c =
    let m = c.min-most.ensures in
    sym (first-at _ _ _ (omega (arith, m, c.loop-i-test.true)) c.loop-i.invariant.1 (ap not (sym (tested (goal.at.returns-then-not-edge_row-least c).After-edge_row)) ∙ c.if-not-edge_row-least.true-raw))

pub loop-i-preserved : goal.loop-i-preserved
loop-i-preserved c =
    (rw c.key-edge.ensures.0 (sym (least_more _ _ c.loop-i.i)), below_more _ _ c.loop-i.invariant.1 (ap not (sym (tested (goal.at.loop-i-preserved c).After-edge_row)) ∙ c.if-not-edge_row-least.false-raw))

pub returns : goal.returns
unfolding edges_in
returns c =
    let m = c.min-most.ensures in
    m ∙ sym (first-none _ _ (λ j h. c.loop-i.invariant.1 j (omega (arith, h, m, c.loop-i-test.false))))
