use mathlib.Core.Path.{◌≡◌, refl}
use native.Mathlib.Omega.{arith}
use borrow.Author.Rules.{rules}
use Rattle.model.specs.Places.{table}
use Rattle.model.proofs.Tables.{table-next}
use Rattle.wire.specs.Payload.{laid_over}
use Rattle.wire.proofs.halves.Goals as goal

pub loop-i-init : goal.loop-i-init
unfolding laid_over table
loop-i-init c = (refl, refl)

pub loop-i-preserved : goal.loop-i-preserved
unfolding laid_over
loop-i-preserved c =
    let l = c.loop-i in
    (search rules, simp (c.half.ensures, l.invariant.1) (table-next _ l.i _ (omega arith)))

pub returns-clause-list_after : goal.returns-clause-list_after
returns-clause-list_after c =
    let e : c.loop-i.i ≡ c.min-n.result = omega arith in
    rw (← c.min-n.ensures, ← e) c.loop-i.invariant.1
