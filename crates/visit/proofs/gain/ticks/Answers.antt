use mathlib.Core.Path.{sym, ap₂, ◌∙◌}
use Prim.Native.Nat.{◌+◌}
use native.Mathlib.Omega.{arith}
use Rattle.vset.specs.Members.{is_in}
use Rattle.visit.proofs.Totals.{total-small, total-words}
use Rattle.visit.proofs.gain.ticks.Goals as goal

pub each-requires : goal.each-requires
each-requires c = c.requires

pub each-requires-2 : goal.each-requires-2
each-requires-2 c = c.requires

pub overflow_add-result : goal.overflow_add-result
overflow_add-result c =
    let w = c.args.wcet.now in
    omega (arith, c.each.ensures, c.each-2.ensures, total-small w c.requires (is_in (record { lo = c.args.s.lo; hi = 0 })), total-small w c.requires (is_in (record { lo = 0; hi = c.args.s.hi })))

pub returns : goal.returns
returns c = ap₂ ◌+◌ c.each.ensures c.each-2.ensures ∙ sym (total-words c.args.wcet.now c.args.s (omega arith))
