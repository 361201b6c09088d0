use mathlib.Core.Path.{◌≡◌, refl}
use mathlib.Core.Bool.{true}
use Prim.Native.Nat.{◌+◌, ◌<◌}
use native.Mathlib.Omega.{arith}
use lib.ListN.{get_or}
use borrow.Author.Tests.{not-false}
use Rattle.vset.specs.Members.{is_in}
use Rattle.vset.proofs.Words.{itself}
use Rattle.vset.proofs.Taking.{some_in, lowest_in, none_in, fewer_in}
use Rattle.visit.specs.Cells.{total_of}
use Rattle.visit.proofs.Totals.{total-less, total-none, total-small}
use Rattle.visit.proofs.gain.each.Goals as goal
use Rattle.visit.proofs.gain.each.Goals.{After-next-next}

-- the lowest member that is left
found : (c : After-next-next) → (c.next-next.result.v < 128) × (is_in c.loop-rest.rest c.next-next.result.v ≡ true)
found c =
    let l = c.loop-rest in
    lowest_in (is_in l.rest) c.next-next.result.v c.is_empty.result c.next-next.ensures.v_value c.is_empty.ensures c.loop-rest-test.true-raw

-- its WCET is no longer in the rest
less : (c : After-next-next)
    → total_of c.args.wcet.now (is_in c.loop-rest.rest) ≡ total_of c.args.wcet.now (is_in c.next-next.result.rest) + get_or c.args.wcet.now c.next-next.result.v 0
less c =
    let l = c.loop-rest in
    total-less c.args.wcet.now (is_in l.rest) (is_in c.next-next.result.rest) c.next-next.result.v (found c).0 (found c).1 c.next-next.ensures.members.are

pub loop-rest-init : goal.loop-rest-init
loop-rest-init c = (itself c.args.s (omega arith) (omega arith) (is_in c.args.s) (λ k. refl), omega arith)

pub next-next-requires : goal.next-next-requires
next-next-requires c = some_in (is_in c.loop-rest.rest) c.is_empty.result c.is_empty.ensures c.loop-rest-test.true-raw

pub offset_bounds-wcet-w : goal.offset_bounds-wcet-w
offset_bounds-wcet-w c = omega (arith, (found c).0)

pub bounds-wcet-w : goal.bounds-wcet-w
bounds-wcet-w c = omega (arith, (found (goal.at.bounds-wcet-w c).After-next-next).0)

pub overflow_cast-total : goal.overflow_cast-total
overflow_cast-total c = omega (arith, c.requires c.next-next.result.v)

pub overflow_add-total : goal.overflow_add-total
overflow_add-total c =
    omega (arith, less (goal.at.overflow_add-total c).After-next-next, c.loop-rest.invariant.1, total-small c.args.wcet.now c.requires (is_in c.args.s))

pub loop-rest-smaller : goal.loop-rest-smaller
loop-rest-smaller c =
    fewer_in (is_in c.loop-rest.rest) (is_in c.next-next.result.rest) c.next-next.result.v c.next-next.ensures.members.are (found (goal.at.loop-rest-smaller c).After-next-next).1 (found (goal.at.loop-rest-smaller c).After-next-next).0

pub loop-rest-preserved : goal.loop-rest-preserved
loop-rest-preserved c =
    let r = c.next-next.result.rest in
    (itself r c.next-next.ensures.members.low c.next-next.ensures.members.high (is_in r) (λ k. refl), omega (arith, less (goal.at.loop-rest-preserved c).After-next-next, c.loop-rest.invariant.1))

pub returns : goal.returns
returns c =
    let l = c.loop-rest in
    let z = total-none c.args.wcet.now (is_in l.rest) (none_in l.rest (is_in l.rest) l.invariant.0 c.is_empty.result c.is_empty.ensures (not-false c.is_empty.result c.loop-rest-test.false-raw)) in
    omega (arith, l.invariant.1)
