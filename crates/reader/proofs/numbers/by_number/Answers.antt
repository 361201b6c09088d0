use Prim.Native.Nat.{ℕ, ◌≤◌}
use mathlib.Core.Path.{◌≡◌, sym, ap}
use mathlib.Core.Bool.{true, false}
use native.Mathlib.Omega.{arith}
use borrow.Author.Tests.{lt-ltb, le-ltb}
use borrow.Author.Count.{below_more}
use Rattle.graph.specs.Answer.{Refused}
use Rattle.graph.specs.Judge.{applies}
use Rattle.reader.proofs.Taking.{few-places, found_at, found_none}
use borrow.Author.Rules.{rules}
use Rattle.reader.proofs.numbers.by_number.Goals as goal

pub loop-number-init : goal.loop-number-init
loop-number-init c = λ j b f. absurd (omega arith)

pub place-at-requires : goal.place-at-requires
place-at-requires c = (c.requires.0, search rules, search rules)

pub overflow_cast-result : goal.overflow_cast-result
overflow_cast-result c = omega (arith, few-places c.args.file.now c.loop-number.number c.requires.1)

pub returns-then-at-span : goal.returns-then-at-span
unfolding applies
returns-then-at-span c =
    let a = c.args in
    let l = c.loop-number in
    let h : applies a.file.now l.number ≡ true = rw (← c.place-at.ensures, ← c.span.ensures) (lt-ltb _ _ c.if-at-span.true) in
    rw c.place-at.ensures (sym (found_at a.file.now l.number (omega arith) (omega arith) l.invariant h))

pub loop-number-preserved : goal.loop-number-preserved
unfolding applies
loop-number-preserved c =
    let a = c.args in
    let l = c.loop-number in
    let h : applies a.file.now l.number ≡ false = rw (← c.place-at.ensures, ← c.span.ensures) (le-ltb _ _ c.if-at-span.false) in
    below_more (λ (j : ℕ). 2 ≤ j → applies a.file.now j ≡ false) l.number l.invariant (λ f. h)

pub returns : goal.returns
returns c = sym (found_none c.args.file.now (λ j b f. c.loop-number.invariant j (omega arith) f))
