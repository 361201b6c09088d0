use mathlib.Core.Path.{◌≡◌}
use native.Mathlib.Omega.{arith}
use Rattle.enough.proofs.Halving.{all_sixteen}
use Rattle.enough.proofs.accepted.smallest.Goals as goal

pub loop-span-init : goal.loop-span-init
loop-span-init c = all_sixteen

pub halved-span-requires : goal.halved-span-requires
halved-span-requires c = let p = c.requires in record { usable = p.usable; s_lt_kinds = p.s_lt_kinds; between = (c.loop-span.invariant, c.loop-span-test.true) }

pub loop-span-smaller : goal.loop-span-smaller
loop-span-smaller c = omega (arith, c.halved-span.ensures.low_bound)

pub loop-span-preserved : goal.loop-span-preserved
loop-span-preserved c = c.halved-span.ensures.between_2

pub returns : goal.returns
returns c =
    let l = c.loop-span in
    let e : l.span.high ≡ l.span.low = omega (arith, l.invariant.ordered) in
    rw e at l.invariant
