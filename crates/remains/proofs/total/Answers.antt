use borrow.Author.Rules.{rules}
use native.Mathlib.Omega.{arith}
use mathlib.Core.Path.{sym, ap, ◌∙◌}
use Prim.Native.Nat.{ℕ, ◌+◌}
use lib.ListN.{get_or, length-take}
use Rattle.std.proofs.lemmas.List.{get_or-take}
use Rattle.remains.specs.Remains.{place}
use Rattle.model.proofs.Turns.{sum-none, sum-next}
use mir.Val.{Fits}
use mir.Syntax.{w32}
use Rattle.remains.proofs.total.Goals as goal

pub loop-ticks-init : goal.loop-ticks-init
loop-ticks-init c = (sym (sum-none _), search rules)

pub loop-ticks-preserved : goal.loop-ticks-preserved
loop-ticks-preserved c =
    let l = c.loop-ticks in
    let v = l.ticks-index in
    let here = get_or-take c.args.n c.args.left v 0 (omega (arith, length-take c.args.n c.args.left)) in
    let b : Fits w32 (get_or c.args.left v 0) = search rules in
    (rw here (ap (λ (x : ℕ). x + get_or c.args.left v 0) l.invariant.0 ∙ sym (sum-next (place c.args.left) v)), rw here (omega arith))
