use mathlib.Core.Path.{ap, ◌≡◌}
use mathlib.Core.Bool.{not, true}
use Prim.Native.Nat.{◌<◌}
use native.Mathlib.Omega.{arith}
use borrow.Author.Rules.{rules}
use Rattle.vset.specs.Members.{is_in}
use Rattle.vset.proofs.Taking.{some_in, lowest_in, fewer_in, emptied}
use Rattle.stg.proofs.Spreading.{spreading_none, spreading_more, spreading_all}
use Rattle.stg.proofs.after.spread.Goals as goal
use Rattle.stg.proofs.after.spread.Goals.{After-next-next}

pub loop-rest-init : goal.loop-rest-init
loop-rest-init c = spreading_none c.args.after.now (is_in c.args.set) c.args.v c.requires.1

pub next-next-requires : goal.next-next-requires
next-next-requires c = some_in (is_in c.loop-rest.rest) c.is_empty.result c.is_empty.ensures (ap not c.loop-rest-test.true)

-- there is a member left, so the lowest is one
found : (c : After-next-next) → (c.next-next.result.v < 128) × (is_in c.loop-rest.rest c.next-next.result.v ≡ true)
found c = let l = c.loop-rest in lowest_in (is_in l.rest) c.next-next.result.v c.is_empty.result c.next-next.ensures.v_value c.is_empty.ensures (ap not c.loop-rest-test.true)

pub join-requires : goal.join-requires
join-requires c = ((found (goal.at.join-requires c).After-next-next).0, search rules)

pub loop-rest-smaller : goal.loop-rest-smaller
loop-rest-smaller c =
    let l = c.loop-rest in
    let n = c.next-next in
    let h = found (goal.at.loop-rest-smaller c).After-next-next in
    fewer_in (is_in l.rest) (is_in n.result.rest) n.result.v n.ensures.members.are h.1 h.0

pub loop-rest-preserved : goal.loop-rest-preserved
loop-rest-preserved c =
    let l = c.loop-rest in
    let a = c.args in
    let n = c.next-next in
    let h = found (goal.at.loop-rest-preserved c).After-next-next in
    rw c.join.ensures (spreading_more a.after.now (is_in a.set) a.v l.after (is_in l.rest) n.result.v l.invariant h.0 h.1 (is_in n.result.rest) n.ensures.members.are)

pub returns : goal.returns
returns c =
    let l = c.loop-rest in
    let a = c.args in
    spreading_all a.after.now (is_in a.set) a.v l.after (is_in l.rest) l.invariant (emptied a.set (is_in l.rest) (omega arith) (omega arith) l.invariant.inside c.is_empty.result c.is_empty.ensures (ap not c.loop-rest-test.false))
