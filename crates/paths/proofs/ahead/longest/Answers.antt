use mathlib.Core.Path.{◌≡◌}
use Prim.Native.Nat.{◌-◌, ◌<◌}
use native.Mathlib.Omega.{arith}
use lib.ListN.{get_or}
use Rattle.paths.proofs.Sums.{done_none, done-vertex, done_visitable, done_more, done-comparable, done-summed}
use Rattle.paths.proofs.ahead.longest.Goals as goal
use Rattle.paths.proofs.ahead.longest.Goals.{After-most_ahead}

pub loop-j-init : goal.loop-j-init
loop-j-init c = done_none _ _ _ _ _

pub bounds-order-j : goal.bounds-order-j
bounds-order-j c =
    let p = c.requires.1 in
    omega (arith, p.vertices, p.rows.accepted.few_vertices)

pub overflow_cast-u : goal.overflow_cast-u
overflow_cast-u c =
    let l = c.loop-j in
    omega (arith, done-vertex c.requires.1 (l.j - 1) (omega arith))

pub most_ahead-requires : goal.most_ahead-requires
most_ahead-requires c =
    let l = c.loop-j in
    done_visitable c.requires.1 l.sums.ahead l.j (l.j - 1) (omega arith) (omega arith) l.invariant

-- the place that is stored to
vertex : (c : After-most_ahead) → get_or c.args.order.now (c.loop-j.j - 1) 0 < 128
vertex c =
    let l = c.loop-j in
    done-vertex c.requires.1 (l.j - 1) (omega arith)

pub offset_bounds-sums-u : goal.offset_bounds-sums-u
offset_bounds-sums-u c = omega (arith, vertex c)

pub bounds-sums-u : goal.bounds-sums-u
bounds-sums-u c = vertex c

pub loop-j-preserved : goal.loop-j-preserved
loop-j-preserved c =
    let l = c.loop-j in
    done_more c.requires.1 l.sums.ahead l.j (l.j - 1) (omega arith) (omega arith) l.invariant c.most_ahead.result c.most_ahead.ensures

pub overflow_cast-order : goal.overflow_cast-order
overflow_cast-order c =
    let p = c.requires.1 in
    omega (arith, done-vertex p 0 (omega (arith, p.vertices, p.rows.accepted.some_vertex)))

pub foremost-requires : goal.foremost-requires
foremost-requires c =
    let l = c.loop-j in
    let e : l.j ≡ 0 = omega arith in
    let p = c.requires in
    done-comparable p.1 l.sums.ahead _ (rw e at l.invariant) p.2

pub returns : goal.returns
returns c g T S =
    let l = c.loop-j in
    let e : l.j ≡ 0 = omega arith in
    done-summed T l.sums.ahead _ (rw e at l.invariant) S c.foremost.result c.foremost.ensures
