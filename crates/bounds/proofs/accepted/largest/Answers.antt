use Prim.Native.Nat.{◌+◌, ◌≤◌, ◌<◌}
use native.Mathlib.Omega.{arith}
use lib.ListN.{get_or}
use Rattle.graph.specs.Model.{as_model}
use Rattle.paths.specs.Ahead.{weigh, Summed}
use Rattle.paths.proofs.Complete.{ahead_small, head_greatest}
use Rattle.bounds.proofs.accepted.largest.Goals as goal
use Rattle.bounds.proofs.accepted.largest.Goals.{After-longest-sums}

-- the sums of the graph that there is
summed : (c : After-longest-sums) → Summed (as_model c.requires.0) (weigh c.args.weight.now) c.longest-sums.result
summed c = c.longest-sums.ensures c.requires.0 c.requires.1 c.requires.2

few : (c : After-longest-sums) → c.longest-sums.result.head < 128
unfolding as_model
few c = omega (arith, (summed c).head.known, c.requires.1.rows.accepted.few_vertices)

fits : (c : After-longest-sums)
    → get_or c.args.weight.now c.longest-sums.result.head 0 + get_or c.longest-sums.result.ahead c.longest-sums.result.head 0 ≤ 92972880000000
unfolding as_model
fits c =
    let p = c.requires.1 in
    let G = p.rows.accepted in
    let h = (summed c).head.known in
    omega (arith, p.light c.longest-sums.result.head h, ahead_small G.well_formed G.acyclic G.few_vertices c.args.weight.now c.longest-sums.result.ahead p.light (summed c).longest c.longest-sums.result.head h)

pub offset_bounds-weight-h : goal.offset_bounds-weight-h
offset_bounds-weight-h c = omega (arith, few c)

pub bounds-weight-h : goal.bounds-weight-h
bounds-weight-h c = omega (arith, few (goal.at.bounds-weight-h c).After-longest-sums)

pub offset_bounds-sums-h : goal.offset_bounds-sums-h
offset_bounds-sums-h c = omega (arith, few (goal.at.offset_bounds-sums-h c).After-longest-sums)

pub bounds-sums-h : goal.bounds-sums-h
bounds-sums-h c = omega (arith, few (goal.at.bounds-sums-h c).After-longest-sums)

pub overflow_add-result : goal.overflow_add-result
overflow_add-result c = omega (arith, fits (goal.at.overflow_add-result c).After-longest-sums)

pub returns : goal.returns
unfolding as_model
returns c g M S =
    let s = c.longest-sums.ensures g M S in
    head_greatest M.rows.accepted.well_formed _ _ c.longest-sums.result.head s.longest.ahead s.head
