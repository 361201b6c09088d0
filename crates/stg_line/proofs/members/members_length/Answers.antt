use mathlib.Core.Path.{ap, ◌≡◌}
use mathlib.Core.Bool.{not, true}
use Prim.Native.Nat.{◌<◌}
use native.Mathlib.Omega.{arith}
use Rattle.vset.specs.Members.{is_in}
use Rattle.vset.proofs.Taking.{some_in, lowest_in, fewer_in}
use Rattle.stg_text.proofs.Taken.{none_left}
use Rattle.stg_line.proofs.Laying.{done_none, done_more, done-few, done_all}
use Rattle.stg_line.proofs.members.members_length.Goals as goal
use Rattle.stg_line.proofs.members.members_length.Goals.{After-next-next}

pub loop-rest-init : goal.loop-rest-init
loop-rest-init c = done_none (is_in c.args.set)

pub next-next-requires : goal.next-next-requires
next-next-requires c = some_in (is_in c.loop-rest.rest) c.is_empty.result c.is_empty.ensures (ap not c.loop-rest-test.true)

-- there is a member left, so the lowest is one
found : (c : After-next-next) → (c.next-next.result.v < 128) × (is_in c.loop-rest.rest c.next-next.result.v ≡ true)
found c = let l = c.loop-rest in lowest_in (is_in l.rest) c.next-next.result.v c.is_empty.result c.next-next.ensures.v_value c.is_empty.ensures (ap not c.loop-rest-test.true)

pub width-one-requires : goal.width-one-requires
width-one-requires c = omega (arith, (found c).0)

pub overflow_add-sum : goal.overflow_add-sum
overflow_add-sum c = let l = c.loop-rest in omega (arith, done-few (is_in c.args.set) (is_in l.rest) l.sum l.invariant, c.width-one.ensures.2)

pub overflow_add-sum-in-loop-rest : goal.overflow_add-sum-in-loop-rest
overflow_add-sum-in-loop-rest c = let l = c.loop-rest in omega (arith, done-few (is_in c.args.set) (is_in l.rest) l.sum l.invariant, c.width-one.ensures.2)

pub loop-rest-smaller : goal.loop-rest-smaller
loop-rest-smaller c =
    let l = c.loop-rest in
    let n = c.next-next in
    let h = found (goal.at.loop-rest-smaller c).After-next-next in
    fewer_in (is_in l.rest) (is_in n.result.rest) n.result.v n.ensures.members.are h.1 h.0

pub loop-rest-preserved : goal.loop-rest-preserved
loop-rest-preserved c =
    let l = c.loop-rest in
    let n = c.next-next in
    let h = found (goal.at.loop-rest-preserved c).After-next-next in
    done_more (is_in c.args.set) (is_in l.rest) l.sum l.invariant n.result.v n.ensures.v_value h.0 h.1 (is_in n.result.rest) n.ensures.members.are c.width-one.result c.width-one.ensures.0

pub returns : goal.returns
returns c =
    let l = c.loop-rest in
    let s = is_in c.args.set in
    (done_all s (is_in l.rest) l.sum l.invariant (none_left (is_in l.rest) c.is_empty.result c.is_empty.ensures (ap not c.loop-rest-test.false)), done-few s (is_in l.rest) l.sum l.invariant)
