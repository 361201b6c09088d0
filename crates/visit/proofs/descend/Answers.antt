use mathlib.Core.Path.{sym}
use Prim.Native.Nat.{◌-◌, ◌<◌}
use native.Mathlib.Omega.{arith}
use Rattle.graph.specs.declared.Graph.{Graph}
use Rattle.visit.proofs.Opening.{few_vertices, short, numbers-few, kind-few, share-small}
use Rattle.visit.proofs.Walking.{cell-last, kept-few, Top, top-row, top_range, top-ended, top_small, next_known, next-room, next-reached}
use Rattle.visit.proofs.descend.Goals as goal
use Rattle.visit.proofs.descend.Goals.{After-child-s, At-loop-c}

-- the last cell, over the tables of the graph g
abbrev TopOf : At-loop-c → Graph → Type 0
TopOf c g =
    Top g c.args.ways.now c.args.rows.now c.args.kind.now
    c.args.wcet.now c.args.share.now c.args.edge.now
    c.args.start.now c.loop-c.cells c.loop-c.d c.args.k c.loop-c.c

its : (c : At-loop-c) → TopOf c c.requires.0
its c =
    let p = c.requires in
    record { ground = p.1; laid = p.2; among = p.3; reached = c.loop-c.invariant.0 p.0 p.1 p.2 p.3 p.4; is = c.loop-c.invariant.1 }

room : (c : After-child-s) → c.loop-c.d < 128
room c = next-room (its (goal.at.After-child-s c).At-loop-c) c.child-s.result c.child-s.ensures

pub overflow_sub-d : goal.overflow_sub-d
overflow_sub-d c = c.requires.4.some

pub at-c-requires : goal.at-c-requires
at-c-requires c =
    let p = c.requires in
    omega (arith, kept-few p.1 c.args.cells.now c.args.depth p.4.kept.stands, p.4.some)

pub loop-c-init : goal.loop-c-init
loop-c-init c = (λ g D L h R. R, c.at-c.ensures)

pub many-requires : goal.many-requires
many-requires c = (top-row (its c)).span

pub child-s-requires : goal.child-s-requires
child-s-requires c =
    let T = its (goal.at.child-s-requires c).At-loop-c in
    record { row = top-row T; first_le_k = top_range T (omega (arith, c.many.ensures, c.loop-c-test.true)); by_index = numbers-few T.ground }

pub opened-c-requires : goal.opened-c-requires
opened-c-requires c =
    let T = its (goal.at.opened-c-requires c).At-loop-c in
    let l = next_known T c.child-s.result c.child-s.ensures in
    record { v_bound = (omega (arith, l, few_vertices T.ground), kind-few T.ground _ l, share-small T.ground _ l); by_index = short T.ground; value_bound = top_small T }

pub put-requires : goal.put-requires
put-requires c = room (goal.at.put-requires c).After-child-s

pub overflow_add-d : goal.overflow_add-d
overflow_add-d c = omega (arith, room (goal.at.overflow_add-d c).After-child-s)

pub loop-c-smaller : goal.loop-c-smaller
loop-c-smaller c = omega (arith, room (goal.at.loop-c-smaller c).After-child-s)

pub loop-c-preserved : goal.loop-c-preserved
loop-c-preserved c = (
  λ g D L among R. rw c.put.ensures
      (next-reached (record { ground = D; laid = L; among = among; reached = c.loop-c.invariant.0 g D L among R; is = c.loop-c.invariant.1 }) c.child-s.result c.child-s.ensures c.opened-c.result c.opened-c.ensures),
  rw c.put.ensures (sym (cell-last c.loop-c.cells c.loop-c.d c.opened-c.result (omega (arith, (its (goal.at.loop-c-preserved c).At-loop-c).reached.kept.size, room (goal.at.loop-c-preserved c).After-child-s)))),
)

pub returns : goal.returns
returns c g D L among R =
    top-ended (record { ground = D; laid = L; among = among; reached = c.loop-c.invariant.0 g D L among R; is = c.loop-c.invariant.1 })
    (omega (arith, c.many.ensures, c.loop-c-test.false))
