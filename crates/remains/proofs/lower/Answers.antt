use mathlib.Core.Path.{◌≡◌}
use mathlib.Core.Bool.{true}
use Prim.Native.Nat.{◌<◌}
use native.Mathlib.Omega.{arith}
use Rattle.vset.specs.Members.{is_in}
use Rattle.vset.proofs.Taking.{some_in, lowest_in, fewer_in, emptied}
use Rattle.remains.proofs.Lowering.{lowering_none, lowering_more, lowering_all, untouched}
use Rattle.remains.proofs.lower.Goals as goal
use Rattle.remains.proofs.lower.Goals.{After-next-next}

pub loop-rest-init : goal.loop-rest-init
loop-rest-init c = lowering_none c.args.left.now (is_in c.args.on) c.args.d c.requires.left_len c.none-over.result c.none-over.ensures

pub next-next-requires : goal.next-next-requires
next-next-requires c = some_in (is_in c.loop-rest.rest) c.is_empty.result c.is_empty.ensures c.loop-rest-test.true-raw

-- there is a member left, so the lowest is one
found : (c : After-next-next) → (c.next-next.result.v < 128) × (is_in c.loop-rest.rest c.next-next.result.v ≡ true)
found c = let l = c.loop-rest in lowest_in (is_in l.rest) c.next-next.result.v c.is_empty.result c.next-next.ensures.v_value c.is_empty.ensures c.loop-rest-test.true-raw

pub offset_bounds-left-v : goal.offset_bounds-left-v
offset_bounds-left-v c = omega (arith, (found c).0)

pub bounds-left-v : goal.bounds-left-v
bounds-left-v c = (found (goal.at.bounds-left-v c).After-next-next).0

pub overflow_sub-more : goal.overflow_sub-more
overflow_sub-more c =
    let l = c.loop-rest in
    let v = c.next-next.result.v in
    let h = (found (goal.at.overflow_sub-more c).After-next-next).1 in
    rw (untouched c.args.left.now (is_in c.args.on) c.args.d l.left l.over l.least (is_in l.rest) l.invariant v h) (c.requires.by_index v (l.invariant.inside v h))

pub offset_bounds-left-v-in-loop-rest : goal.offset_bounds-left-v-in-loop-rest
offset_bounds-left-v-in-loop-rest c = omega (arith, (found (goal.at.offset_bounds-left-v-in-loop-rest c).After-next-next).0)

pub bounds-left-v-in-loop-rest : goal.bounds-left-v-in-loop-rest
bounds-left-v-in-loop-rest c = (found (goal.at.bounds-left-v-in-loop-rest c).After-next-next).0

pub with_if-over-requires : goal.with_if-over-requires
with_if-over-requires c = (found (goal.at.with_if-over-requires c).After-next-next).0

pub loop-rest-smaller : goal.loop-rest-smaller
loop-rest-smaller c =
    let h = found (goal.at.loop-rest-smaller c).After-next-next in
    fewer_in (is_in c.loop-rest.rest) (is_in c.next-next.result.rest) c.next-next.result.v c.next-next.ensures.members.are h.1 h.0

pub loop-rest-preserved : goal.loop-rest-preserved
loop-rest-preserved c =
    let l = c.loop-rest in
    let h = found (goal.at.loop-rest-preserved c).After-next-next in
    lowering_more c.args.left.now (is_in c.args.on) c.args.d l.left l.over l.least (is_in l.rest) l.invariant c.next-next.result.v h.0 h.1 (is_in c.next-next.result.rest) c.next-next.ensures.members.are
    c.with_if-over.result c.with_if-over.ensures c.lesser_if-least.result c.lesser_if-least.ensures

pub returns : goal.returns
returns c =
    let l = c.loop-rest in
    let whole = lowering_all c.args.left.now (is_in c.args.on) c.args.d l.left l.over l.least (is_in l.rest) l.invariant (emptied c.args.on (is_in l.rest) (omega arith) (omega arith) l.invariant.inside c.is_empty.result c.is_empty.ensures c.loop-rest-test.false-raw) in
    record { left_after = whole.0; members = whole.1.0; least_from = whole.1.1 }
