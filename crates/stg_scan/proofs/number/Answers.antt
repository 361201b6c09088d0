use Prim.Native.Nat.{◌+◌, ◌-◌, ◌<◌, ◌≤◌}
use mathlib.Core.Path.{◌≡◌, sym, ◌∙◌}
use native.Mathlib.Omega.{arith}
use mathlib.Core.Bool.{true, ◌&&◌}
use lib.ListN.{length, get_or}
use lib.Dec.{ltb}
use borrow.Author.Tests.{ltb-true}
use Rattle.model.proofs.Bools.{left-of, right_of}
use Rattle.stg_text.specs.Fields.{digit}
use borrow.Author.Rules.{rules}
use Rattle.stg_scan.proofs.Going.{scan-part, scan-bad, scan-more, scan-end, digit-from, digit-more}
use Rattle.stg_scan.proofs.number.Goals as goal
use Rattle.stg_scan.proofs.number.Goals.{Else-not-digit-k}

pub returns-then-parts : goal.returns-then-parts
returns-then-parts c =
    let l = c.loop-i in
    sym (scan-part c.args.text.now l.i (l.i - c.args.at) l.x (search rules) (sym c.parts.ensures ∙ c.if-parts.true)) ∙ l.invariant.2

pub returns-then-not-digit-k : goal.returns-then-not-digit-k
returns-then-not-digit-k c =
    let l = c.loop-i in
    sym (scan-bad c.args.text.now l.i (l.i - c.args.at) l.x (search rules) (sym c.parts.ensures ∙ c.if-parts.false) (rw c.digit.ensures at c.if-not-digit-k.true)) ∙ l.invariant.2

-- there is one digit more, and it has room
one-more : (e : Else-not-digit-k) → digit (get_or e.args.text.now e.loop-i.i 0) && ltb (e.loop-i.i - e.args.at) 10 ≡ true
one-more e = rw e.digit.ensures at e.if-not-digit-k.false

a_digit : (e : Else-not-digit-k) → (48 ≤ get_or e.args.text.now e.loop-i.i 0) × (get_or e.args.text.now e.loop-i.i 0 ≤ 57)
a_digit e = let d = get_or e.args.text.now e.loop-i.i 0 in digit-from d (left-of (digit d) (ltb (e.loop-i.i - e.args.at) 10) (one-more e))

pub overflow_sub-c : goal.overflow_sub-c
overflow_sub-c c = (a_digit c).0

pub loop-i-preserved : goal.loop-i-preserved
loop-i-preserved c =
    let l = c.loop-i in
    let s = c.args.text.now in
    let m = one-more (goal.at.loop-i-preserved c).Else-not-digit-k in
    let f = a_digit (goal.at.loop-i-preserved c).Else-not-digit-k in
    let k : l.i - c.args.at < 10 = ltb-true (l.i - c.args.at) 10 (right_of (digit (get_or s l.i 0)) (ltb (l.i - c.args.at) 10) m) in
    let e : l.i + 1 - c.args.at ≡ l.i - c.args.at + 1 = omega (arith, l.auto.i) in
    rw (e, c.from.ensures) (
      omega arith,
      digit-more (l.i - c.args.at) l.x (get_or s l.i 0 - 48) l.invariant.1 (omega arith),
      sym (scan-more s l.i (l.i - c.args.at) l.x (search rules) (sym c.parts.ensures ∙ c.if-parts.false) m) ∙ l.invariant.2,
    )

pub returns : goal.returns
returns c =
    let l = c.loop-i in
    let e : l.i ≡ length c.args.text.now = omega arith in
    rw (← e) (sym (scan-end c.args.text.now l.i (l.i - c.args.at) l.x (omega arith)) ∙ l.invariant.2)
