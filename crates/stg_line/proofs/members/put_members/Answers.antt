use mathlib.Core.Path.{ap, ◌≡◌}
use mathlib.Core.Bool.{not, true}
use Prim.Native.Nat.{◌<◌}
use native.Mathlib.Omega.{arith}
use Rattle.vset.specs.Members.{is_in}
use Rattle.vset.proofs.Taking.{some_in, lowest_in, fewer_in}
use Rattle.stg_text.proofs.Taken.{none_left}
use Rattle.stg_line.proofs.Laying.{put-long, going-none, going-fits, going_more, going-all}
use Rattle.stg_line.proofs.members.put_members.Goals as goal
use Rattle.stg_line.proofs.members.put_members.Goals.{After-next-next}

pub loop-rest-init : goal.loop-rest-init
loop-rest-init c = going-none (is_in c.args.set) c.args.out.now c.args.at

pub next-next-requires : goal.next-next-requires
next-next-requires c = some_in (is_in c.loop-rest.rest) c.is_empty.result c.is_empty.ensures (ap not c.loop-rest-test.true)

-- there is a member left, so the lowest is one
found : (c : After-next-next) → (c.next-next.result.v < 128) × (is_in c.loop-rest.rest c.next-next.result.v ≡ true)
found c = let l = c.loop-rest in lowest_in (is_in l.rest) c.next-next.result.v c.is_empty.result c.next-next.ensures.v_value c.is_empty.ensures (ap not c.loop-rest-test.true)

pub put_field-more-requires : goal.put_field-more-requires
put_field-more-requires c =
    let l = c.loop-rest in
    let n = c.next-next in
    let h = found (goal.at.put_field-more-requires c).After-next-next in
    (omega (arith, h.0), going-fits (is_in c.args.set) c.args.out.now c.args.at (is_in l.rest) l.i l.out l.invariant n.result.v n.ensures.v_value h.0 h.1 c.requires)

pub loop-rest-smaller : goal.loop-rest-smaller
loop-rest-smaller c =
    let l = c.loop-rest in
    let n = c.next-next in
    let h = found (goal.at.loop-rest-smaller c).After-next-next in
    fewer_in (is_in l.rest) (is_in n.result.rest) n.result.v n.ensures.members.are h.1 h.0

pub loop-rest-preserved : goal.loop-rest-preserved
loop-rest-preserved c =
    let l = c.loop-rest in
    let a = c.args in
    let n = c.next-next in
    let h = found (goal.at.loop-rest-preserved c).After-next-next in
    let p = c.put_field-more in
    going_more (is_in a.set) a.out.now a.at (is_in l.rest) l.i l.out l.invariant n.result.v n.ensures.v_value h.0 h.1 (is_in n.result.rest) n.ensures.members.are p.result p.new.out (record { is = p.ensures.0; laid = p.ensures.1 })

pub shape_of-out : goal.shape_of-out
shape_of-out c = let l = c.loop-rest in put-long _ _ l.i l.out _ l.invariant.put

pub returns : goal.returns
returns c =
    let l = c.loop-rest in
    let a = c.args in
    let P = going-all (is_in a.set) a.out.now a.at (is_in l.rest) l.i l.out l.invariant (none_left (is_in l.rest) c.is_empty.result c.is_empty.ensures (ap not c.loop-rest-test.false)) in
    (P.is, P.laid)
