use mathlib.Core.Path.{◌≡◌}
use Prim.Native.Nat.{◌/◌}
use native.Mathlib.Omega.{arith}
use lib.ListN.{length}
use Rattle.formed.proofs.Clocks.{clock_none, clock_end}
use Rattle.formed.proofs.Lasting.{lasts-none}
use Rattle.formed.proofs.add_up.Goals as goal

pub loop-k-init : goal.loop-k-init
loop-k-init c = (clock_none _ _, lasts-none _)

pub returns : goal.returns
returns c =
    let l = c.loop-k in
    let e : l.k ≡ length c.args.log.now / 8 = omega arith in
    record { totals = clock_end c.requires.1 c.requires.0 _ (rw e at l.invariant.0); lasts = rw e at l.invariant.1 }
