use mathlib.Core.Path.{ap, ◌≡◌}
use mathlib.Core.Bool.{not, true}
use Prim.Native.Nat.{◌<◌}
use native.Mathlib.Omega.{arith}
use Rattle.vset.specs.Members.{is_in}
use Rattle.vset.proofs.Taking.{some_in, lowest_in, fewer_in}
use Rattle.stg_text.proofs.Taken.{none_left}
use Rattle.stg.proofs.Cut.{listing_none, listing_more, listing_all}
use Rattle.stg.proofs.edges.edges_from.Goals as goal
use Rattle.stg.proofs.edges.edges_from.Goals.{After-next-next}

pub loop-rest-init : goal.loop-rest-init
loop-rest-init c = listing_none c.args.u c.args.after c.args.many c.args.list.now c.requires.1 c.requires.2

pub next-next-requires : goal.next-next-requires
next-next-requires c = some_in (is_in c.loop-rest.rest) c.is_empty.result c.is_empty.ensures (ap not c.loop-rest-test.true)

-- there is a member left, so the lowest is one
found : (c : After-next-next) → (c.next-next.result.v < 128) × (is_in c.loop-rest.rest c.next-next.result.v ≡ true)
found c = let l = c.loop-rest in lowest_in (is_in l.rest) c.next-next.result.v c.is_empty.result c.next-next.ensures.v_value c.is_empty.ensures (ap not c.loop-rest-test.true)

pub overflow_add-u : goal.overflow_add-u
overflow_add-u c = omega (arith, (found (goal.at.overflow_add-u c).After-next-next).0)

pub overflow_cast-u : goal.overflow_cast-u
overflow_cast-u c = omega (arith, (found (goal.at.overflow_cast-u c).After-next-next).0)

pub push-m-requires : goal.push-m-requires
push-m-requires c = let I = c.loop-rest.invariant in (I.few, I.long)

pub loop-rest-smaller : goal.loop-rest-smaller
loop-rest-smaller c =
    let l = c.loop-rest in
    let n = c.next-next in
    let h = found (goal.at.loop-rest-smaller c).After-next-next in
    fewer_in (is_in l.rest) (is_in n.result.rest) n.result.v n.ensures.members.are h.1 h.0

pub loop-rest-preserved : goal.loop-rest-preserved
loop-rest-preserved c =
    let l = c.loop-rest in
    let a = c.args in
    let n = c.next-next in
    let h = found (goal.at.loop-rest-preserved c).After-next-next in
    let p = c.push-m in
    listing_more a.u a.after a.many a.list.now (is_in l.rest) l.m l.list n.result.v (is_in n.result.rest) p.result p.new.list l.invariant n.ensures.v_value h.0 h.1 n.ensures.members.are p.ensures.by_index p.ensures.upper_bound.0 p.ensures.upper_bound.1

pub returns : goal.returns
returns c =
    let l = c.loop-rest in
    let a = c.args in
    let I = l.invariant in
    record { by_index = (λ p F L. listing_all a.u a.after a.many a.list.now (is_in l.rest) l.m l.list I (none_left (is_in l.rest) c.is_empty.result c.is_empty.ensures (ap not c.loop-rest-test.false)) p F L); upper_bound = (I.few, I.long) }
