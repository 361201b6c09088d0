use mathlib.Core.Path.{◌≡◌}
use mathlib.Core.Bool.{true}
use Prim.Native.Nat.{◌<◌}
use native.Mathlib.Omega.{arith}
use Rattle.vset.specs.Members.{is_in}
use Rattle.vset.proofs.Taking.{some_in, lowest_in, fewer_in, emptied}
use Rattle.remains.specs.Remains.{place}
use Rattle.remains.proofs.Fewest.{least_first, least-next, least-all}
use Rattle.remains.proofs.least.Goals as goal
use Rattle.remains.proofs.least.Goals.{After-next-next}

pub loop-rest-init : goal.loop-rest-init
loop-rest-init c = least_first (place c.args.left.now) (is_in c.args.on) c.args.top

pub next-next-requires : goal.next-next-requires
next-next-requires c = some_in (is_in c.loop-rest.rest) c.is_empty.result c.is_empty.ensures c.loop-rest-test.true-raw

-- there is a member left, so the lowest is one
found : (c : After-next-next) → (c.next-next.result.v < 128) × (is_in c.loop-rest.rest c.next-next.result.v ≡ true)
found c = let l = c.loop-rest in lowest_in (is_in l.rest) c.next-next.result.v c.is_empty.result c.next-next.ensures.v_value c.is_empty.ensures c.loop-rest-test.true-raw

pub offset_bounds-left-v : goal.offset_bounds-left-v
offset_bounds-left-v c = omega (arith, (found c).0)

pub bounds-left-v : goal.bounds-left-v
bounds-left-v c = (found (goal.at.bounds-left-v c).After-next-next).0

pub loop-rest-smaller : goal.loop-rest-smaller
loop-rest-smaller c =
    let h = found (goal.at.loop-rest-smaller c).After-next-next in
    fewer_in (is_in c.loop-rest.rest) (is_in c.next-next.result.rest) c.next-next.result.v c.next-next.ensures.members.are h.1 h.0

pub loop-rest-preserved : goal.loop-rest-preserved
loop-rest-preserved c =
    let l = c.loop-rest in
    let a = c.args in
    rw c.min-best.ensures (least-next (place a.left.now) (is_in a.on) a.top (is_in l.rest) l.best c.next-next.result.v l.invariant (found (goal.at.loop-rest-preserved c).After-next-next).1 (is_in c.next-next.result.rest) c.next-next.ensures.members.are)

pub returns : goal.returns
returns c =
    let l = c.loop-rest in
    let a = c.args in
    least-all (place a.left.now) (is_in a.on) a.top (is_in l.rest) l.best l.invariant (emptied a.on (is_in l.rest) (omega arith) (omega arith) l.invariant.inside c.is_empty.result c.is_empty.ensures c.loop-rest-test.false-raw)
