use mathlib.Core.Path.{◌≡◌, refl}
use mathlib.Core.Bool.{true}
use Prim.Native.Nat.{◌<◌}
use native.Mathlib.Omega.{arith}
use borrow.Author.Tests.{not-false}
use Rattle.vset.specs.Members.{is_in}
use Rattle.vset.proofs.Words.{itself}
use Rattle.vset.proofs.Taking.{some_in, lowest_in, none_in, fewer_in}
use Rattle.rows.proofs.Gathering.{united_none, united_more, united_all}
use Rattle.rows.proofs.gather.Goals as goal
use Rattle.rows.proofs.gather.Goals.{After-next-next}

-- the lowest member that is left
found : (c : After-next-next) → (c.next-next.result.v < 128) × (is_in c.loop-rest.rest c.next-next.result.v ≡ true)
found c =
    let l = c.loop-rest in
    lowest_in (is_in l.rest) c.next-next.result.v c.is_empty.result c.next-next.ensures.v_value c.is_empty.ensures c.loop-rest-test.true-raw

pub loop-rest-init : goal.loop-rest-init
loop-rest-init c =
    let s = c.args.s in
    let m = itself s (omega arith) (omega arith) (is_in s) (λ k. refl) in
    (m, (m, united_none _ s))

pub next-next-requires : goal.next-next-requires
next-next-requires c = some_in (is_in c.loop-rest.rest) c.is_empty.result c.is_empty.ensures c.loop-rest-test.true-raw

pub row-requires : goal.row-requires
row-requires c = (found c).0

pub loop-rest-smaller : goal.loop-rest-smaller
loop-rest-smaller c =
    fewer_in (is_in c.loop-rest.rest) (is_in c.next-next.result.rest) c.next-next.result.v c.next-next.ensures.members.are (found (goal.at.loop-rest-smaller c).After-next-next).1 (found (goal.at.loop-rest-smaller c).After-next-next).0

pub loop-rest-preserved : goal.loop-rest-preserved
loop-rest-preserved c =
    let l = c.loop-rest in
    let m = c.either-got.ensures in
    let x = c.next-next.result.rest in (
      itself c.either-got.result m.low m.high (is_in c.either-got.result) (λ k. refl),
      (
        itself x c.next-next.ensures.members.low c.next-next.ensures.members.high (is_in x) (λ k. refl),
        united_more _ _ l.got l.rest c.either-got.result x c.next-next.result.v c.next-next.ensures.members.are (found (goal.at.loop-rest-preserved c).After-next-next).1 (found (goal.at.loop-rest-preserved c).After-next-next).0 (rw c.row.ensures at m) l.invariant.1.1,
      ),
    )

pub returns : goal.returns
returns c =
    let l = c.loop-rest in
    record {
      low = l.invariant.0.low;
      high = l.invariant.0.high;
      are = united_all _ _ l.got l.rest (none_in l.rest (is_in l.rest) l.invariant.1.0 c.is_empty.result c.is_empty.ensures (not-false c.is_empty.result c.loop-rest-test.false-raw)) l.invariant.1.1;
    }
