use mathlib.Core.Path.{◌≡◌}
use mathlib.Core.Bool.{true}
use Prim.Native.Nat.{◌<◌}
use native.Mathlib.Omega.{arith}
use Rattle.vset.specs.Members.{is_in}
use Rattle.vset.proofs.Taking.{some_in, lowest_in, fewer_in, emptied}
use Rattle.leaps.proofs.OneByOne.{stamping_none, stamping_more, stamping_all}
use Rattle.leaps.proofs.stamp.Goals as goal
use Rattle.leaps.proofs.stamp.Goals.{After-next-next}

pub loop-rest-init : goal.loop-rest-init
loop-rest-init c = stamping_none c.args.finishes.now (is_in c.args.new) c.args.instant c.requires

pub next-next-requires : goal.next-next-requires
next-next-requires c = some_in (is_in c.loop-rest.rest) c.is_empty.result c.is_empty.ensures c.loop-rest-test.true-raw

-- there is a member left, so the lowest is one
found : (c : After-next-next) → (c.next-next.result.v < 128) × (is_in c.loop-rest.rest c.next-next.result.v ≡ true)
found c = let l = c.loop-rest in lowest_in (is_in l.rest) c.next-next.result.v c.is_empty.result c.next-next.ensures.v_value c.is_empty.ensures c.loop-rest-test.true-raw

pub offset_bounds-finishes-v : goal.offset_bounds-finishes-v
offset_bounds-finishes-v c = omega (arith, (found c).0)

pub bounds-finishes-v : goal.bounds-finishes-v
bounds-finishes-v c = (found (goal.at.bounds-finishes-v c).After-next-next).0

pub loop-rest-smaller : goal.loop-rest-smaller
loop-rest-smaller c =
    let l = c.loop-rest in
    let h = found (goal.at.loop-rest-smaller c).After-next-next in
    fewer_in (is_in l.rest) (is_in c.next-next.result.rest) c.next-next.result.v c.next-next.ensures.members.are h.1 h.0

pub loop-rest-preserved : goal.loop-rest-preserved
loop-rest-preserved c =
    let l = c.loop-rest in
    let a = c.args in
    let h = found (goal.at.loop-rest-preserved c).After-next-next in
    stamping_more a.finishes.now (is_in a.new) a.instant l.finishes (is_in l.rest) c.next-next.result.v l.invariant h.0 h.1 (is_in c.next-next.result.rest) c.next-next.ensures.members.are

pub returns : goal.returns
returns c =
    let l = c.loop-rest in
    let a = c.args in
    stamping_all a.finishes.now (is_in a.new) a.instant l.finishes (is_in l.rest) l.invariant (emptied a.new (is_in l.rest) (omega arith) (omega arith) l.invariant.inside c.is_empty.result c.is_empty.ensures c.loop-rest-test.false-raw)
