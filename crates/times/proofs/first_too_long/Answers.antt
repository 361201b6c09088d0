use lib.ListN.{get_or, length}
use native.Mathlib.Omega.{arith}
use mathlib.Core.Path.{◌≡◌, refl}
use Prim.Native.Nat.{◌<◌}
use borrow.Author.Count.{below_none, below_more}
use borrow.Author.Tests.{lt-ltb, le-ltb}
use Rattle.model.specs.Places.{first}
use Rattle.model.proofs.Places.{first-at, first-none}
use Rattle.times.specs.Times.{too_long_of}
use Rattle.times.proofs.first_too_long.Goals as goal

pub loop-v-init : goal.loop-v-init
loop-v-init c = below_none _

pub returns-then-wcet-v : goal.returns-then-wcet-v
unfolding too_long_of
returns-then-wcet-v c =
    let a = c.args in
    let v = c.loop-v.v in
    let n = length a.times.now in
    let few : v < n = omega arith in
    let is : first (too_long_of a.wcet.now a.times.now) n ≡ v = first-at (too_long_of a.wcet.now a.times.now) n v few c.loop-v.invariant (lt-ltb (get_or a.wcet.now v 0) (get_or a.times.now v 0) (omega (arith, c.if-wcet-v.true))) in
    rw (is, lt-ltb v n few) refl

pub loop-v-preserved : goal.loop-v-preserved
unfolding too_long_of
loop-v-preserved c =
    let l = c.loop-v in
    below_more _ l.v l.invariant (le-ltb _ _ c.if-wcet-v.false)

pub returns : goal.returns
returns c =
    let a = c.args in
    let n = length a.times.now in
    let is : first (too_long_of a.wcet.now a.times.now) n ≡ n = first-none (too_long_of a.wcet.now a.times.now) n (λ u h. c.loop-v.invariant u (omega arith)) in
    rw (is, le-ltb n n (omega arith)) refl
