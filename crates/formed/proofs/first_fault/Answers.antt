use Prim.Native.Nat.{◌/◌}
use mathlib.Core.Path.{◌≡◌, sym, ◌∙◌}
use native.Mathlib.Omega.{arith}
use lib.ListN.{length}
use borrow.Author.Rules.{rules}
use borrow.Author.Count.{below_none}
use Rattle.model.proofs.Places.{first-at, first-none}
use Rattle.formed.proofs.first_fault.Goals as goal

pub loop-k-init : goal.loop-k-init
loop-k-init c = (below_none _, c.begun-p.ensures _)

pub returns-then-faulty : goal.returns-then-faulty
returns-then-faulty c =
    let l = c.loop-k in
    (first-at _ _ _ (search rules) l.invariant.0 (sym c.faulty.ensures ∙ c.if-faulty.true), search rules)

pub returns : goal.returns
returns c =
    let l = c.loop-k in
    let e : l.k ≡ length c.args.log.now / 8 = omega arith in
    (first-none _ _ (λ j h. l.invariant.0 j (omega arith)), rw e at l.invariant.1.on_are)
