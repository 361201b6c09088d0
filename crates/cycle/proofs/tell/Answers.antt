use Prim.Native.Nat.{◌<◌}
use native.Mathlib.Omega.{arith}
use lib.ListN.{get_or}
use Rattle.starts.specs.Starts.{leads_to}
use Rattle.waiting.proofs.Telling.{still_counted}
use Rattle.cycle.proofs.Telling.{told_none, told_still, told_free, place-left}
use Rattle.cycle.proofs.tell.Goals as goal
use Rattle.cycle.proofs.tell.Goals.{then-rest-eq0, else-rest-eq0}
use Rattle.cycle.proofs.tell.Goals.{In-loop-i}

pub loop-i-init : goal.loop-i-init
loop-i-init c =
    let a = c.args in
    told_none a.edge.now a.start a.waiting.now a.order.now a.found c.requires.waiting_len.0 c.requires.waiting_len.1

known : (c : In-loop-i) → leads_to c.args.edge.now c.loop-i.i < 128
known c = c.requires.by_index c.loop-i.i (omega (arith, c.loop-i-test.true))

-- an edge that is still to be followed is counted in what its end waits for
some : (c : In-loop-i) → 0 < get_or c.loop-i.waiting (leads_to c.args.edge.now c.loop-i.i) 0
some c =
    let l = c.loop-i in
    let a = c.args in
    still_counted a.edge.now a.start l.i (omega arith) a.waiting.now l.waiting l.invariant.less a.end (omega (arith, c.loop-i-test.true))
    (c.requires.by_index_2 (leads_to a.edge.now l.i) (known c))

-- so there is a place for that end, should it come free
room : (c : In-loop-i) → c.loop-i.all < 128
room c =
    let l = c.loop-i in
    let a = c.args in
    place-left a.edge.now a.start a.waiting.now a.order.now a.found l.i l.waiting l.order l.all l.invariant (omega arith) (known c) (some c) c.requires.found_bound

pub bounds-waiting-v : goal.bounds-waiting-v
bounds-waiting-v c = rw c.to-v.ensures (known (goal.at.bounds-waiting-v c).In-loop-i)

pub overflow_sub-rest : goal.overflow_sub-rest
overflow_sub-rest c = rw c.to-v.ensures (some (goal.at.overflow_sub-rest c).In-loop-i)

pub bounds-waiting-v-in-loop-i : goal.bounds-waiting-v-in-loop-i
bounds-waiting-v-in-loop-i c = rw c.to-v.ensures (known (goal.at.bounds-waiting-v-in-loop-i c).In-loop-i)

pub overflow_cast-order : goal.overflow_cast-order
overflow_cast-order c = omega (arith, c.to-v.ensures, known (goal.at.overflow_cast-order c).In-loop-i)

pub bounds-order-all : goal.bounds-order-all
bounds-order-all c = room (goal.at.bounds-order-all c).In-loop-i

pub overflow_add-all : goal.overflow_add-all
overflow_add-all c = omega (arith, room (goal.at.overflow_add-all c).In-loop-i)

pub loop-i-preserved : goal.loop-i-preserved
loop-i-preserved c =
    let l = c.loop-i in
    let a = c.args in
    let T = l.invariant in
    rw c.to-v.ensures (
    elim c.if-rest-eq0.branch [
      | then-rest-eq0 x ↦ rw (x.order-is, x.all-is, c.to-v.ensures) (told_free a.edge.now a.start a.waiting.now a.order.now a.found l.i l.waiting l.order l.all T (omega arith) (known (goal.at.loop-i-preserved c).In-loop-i) (some (goal.at.loop-i-preserved c).In-loop-i) (room (goal.at.loop-i-preserved c).In-loop-i) (omega (arith, rw c.to-v.ensures at x.if-rest-eq0.true)))
      | else-rest-eq0 x ↦ rw (x.order-is, x.all-is) (told_still a.edge.now a.start a.waiting.now a.order.now a.found l.i l.waiting l.order l.all T (omega arith) (known (goal.at.loop-i-preserved c).In-loop-i) (some (goal.at.loop-i-preserved c).In-loop-i) (λ e. omega (arith, e, rw c.to-v.ensures at x.if-rest-eq0.false)))
    ]
    )
