use mathlib.Core.Path.{◌≡◌}
use Prim.Native.Nat.{◌<◌}
use native.Mathlib.Omega.{arith}
use lib.ListN.{get_or}
use Rattle.summary.proofs.Along.{few, vertex, row}
use Rattle.gaining.proofs.Gaining.{ends-small, starts-small, Swept, swept_none, swept_sum, fits, swept_more, swept_done}
use Rattle.gaining.proofs.table.gains.Goals as goal
use Rattle.gaining.proofs.table.gains.Goals.{In-loop-p}

pub anew-top-requires : goal.anew-top-requires
anew-top-requires c =
    let T = c.requires.1.weighed in
    record { from_le_n = (omega arith, omega (arith, few T, T.vertices)); by_index = λ q l. omega (arith, vertex T q l, few T) }

pub loop-p-init : goal.loop-p-init
loop-p-init c = (λ g M. swept_none M _ c.anew-top.ensures)

-- the vertex at place p
known : (c : In-loop-p)
    → get_or c.args.order.now c.loop-p.p 0 < c.requires.0.n
known c = vertex c.requires.1.weighed c.loop-p.p c.loop-p-test.true

small : (c : In-loop-p) → get_or c.args.order.now c.loop-p.p 0 < 128
small c = omega (arith, known c, few c.requires.1.weighed)

-- what the pass has there, of the graph that there is
so_far : (c : In-loop-p)
    → Swept c.requires.1 c.loop-p.p c.loop-p.best c.loop-p.top c.loop-p.ended c.loop-p.list
so_far c = let p = c.requires in c.loop-p.invariant p.0 p.1

pub bounds-order-p : goal.bounds-order-p
bounds-order-p c = let T = c.requires.1.weighed in omega (arith, few T, T.vertices)

pub overflow_cast-u : goal.overflow_cast-u
overflow_cast-u c = omega (arith, small (goal.at.overflow_cast-u c).In-loop-p)

pub offset_bounds-list-u : goal.offset_bounds-list-u
offset_bounds-list-u c = omega (arith, small (goal.at.offset_bounds-list-u c).In-loop-p)

pub bounds-list-u : goal.bounds-list-u
bounds-list-u c = omega (arith, small (goal.at.bounds-list-u c).In-loop-p)

pub beyond-next-requires : goal.beyond-next-requires
beyond-next-requires c =
    let T = c.requires.1.weighed in
    record { p_lt_n = (c.loop-p-test.true, omega (arith, few T, T.vertices)); by_index = λ q l. omega (arith, vertex T q l, few T); top_from = (so_far (goal.at.beyond-next-requires c).In-loop-p).top }

pub offset_bounds-starting-u : goal.offset_bounds-starting-u
offset_bounds-starting-u c = omega (arith, small (goal.at.offset_bounds-starting-u c).In-loop-p)

pub bounds-starting-u : goal.bounds-starting-u
bounds-starting-u c = omega (arith, small (goal.at.bounds-starting-u c).In-loop-p)

pub offset_bounds-weight-u : goal.offset_bounds-weight-u
offset_bounds-weight-u c = omega (arith, small (goal.at.offset_bounds-weight-u c).In-loop-p)

pub bounds-weight-u : goal.bounds-weight-u
bounds-weight-u c = omega (arith, small (goal.at.bounds-weight-u c).In-loop-p)

pub offset_bounds-wcet-u : goal.offset_bounds-wcet-u
offset_bounds-wcet-u c = omega (arith, small (goal.at.offset_bounds-wcet-u c).In-loop-p)

pub bounds-wcet-u : goal.bounds-wcet-u
bounds-wcet-u c = omega (arith, small (goal.at.bounds-wcet-u c).In-loop-p)

pub gain-requires : goal.gain-requires
gain-requires c =
    let l = c.loop-p in
    let M = c.requires.1 in
    rw (c.max-past.ensures, swept_sum M l.p c.loop-p-test.true _ _ _ l.list (so_far (goal.at.gain-requires c).In-loop-p))
    (fits M _ c.anew-top.ensures l.p c.loop-p-test.true _ _ _ _ (so_far (goal.at.gain-requires c).In-loop-p) _ c.beyond-next.ensures)

pub offset_bounds-list-u-in-loop-p : goal.offset_bounds-list-u-in-loop-p
offset_bounds-list-u-in-loop-p c = omega (arith, small (goal.at.offset_bounds-list-u-in-loop-p c).In-loop-p)

pub bounds-list-u-in-loop-p : goal.bounds-list-u-in-loop-p
bounds-list-u-in-loop-p c = omega (arith, small (goal.at.bounds-list-u-in-loop-p c).In-loop-p)

pub lead-top-requires : goal.lead-top-requires
lead-top-requires c =
    let l = c.loop-p in
    let M = c.requires.1 in record { row = row M.weighed _ (known (goal.at.lead-top-requires c).In-loop-p); best_len = (so_far (goal.at.lead-top-requires c).In-loop-p).size; sum_bound = rw (swept_sum M l.p c.loop-p-test.true _ _ _ l.list (so_far (goal.at.lead-top-requires c).In-loop-p)) (ends-small M _); by_index = starts-small M }

pub loop-p-preserved : goal.loop-p-preserved
loop-p-preserved c =
    let l = c.loop-p in λ g M. let q = swept_sum M l.p c.loop-p-test.true _ _ _ l.list (l.invariant g M) in
    swept_more M _ c.anew-top.ensures l.p c.loop-p-test.true _ _ _ _ (l.invariant g M) _ c.beyond-next.ensures _
    (rw q at c.lead-top.ensures.told) _ (rw q at c.lead-top.ensures.led) _ (rw q at c.max-ended.ensures) _ (rw (c.max-past.ensures, q) at c.gain.ensures)

pub returns : goal.returns
returns c g M =
    let l = c.loop-p in
    let e : l.p ≡ c.args.n = omega arith in
    swept_done M _ _ _ l.list (rw e at (l.invariant g M))
