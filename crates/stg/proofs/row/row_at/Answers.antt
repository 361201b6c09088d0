use mathlib.Core.Path.{sym, ◌∙◌}
use native.Mathlib.Omega.{arith}
use borrow.Author.Rules.{rules}
use Rattle.stg_scan.proofs.Tokens.{token_number}
use Rattle.stg.proofs.Along.{along-start, along-end, along-fault, along-more, along_unlawful}
use Rattle.stg.proofs.row.row_at.Goals as goal

pub loop-next-init : goal.loop-next-init
loop-next-init c = along-start _ _ _ _ (search rules) (c.start-row.ensures _)

pub returns-in_err-next : goal.returns-in_err-next
returns-in_err-next c =
    rw c.from_residual.ensures (along-fault _ _ _ _ _ c.loop-next.invariant (sym c.next.ensures ∙ c.in_err-next.was))

pub returns-in-End : goal.returns-in-End
returns-in-End c =
    along-end _ _ _ _ _ c.loop-next.invariant _ (sym c.next.ensures ∙ rw c.in-End.is at c.in_ok-next.was)

pub take-requires : goal.take-requires
take-requires c =
    let l = c.loop-next in
    let N = token_number _ _ l.invariant.to _ _ (sym c.next.ensures ∙ rw c.in-Number.is at c.in_ok-next.was) in
    (search rules, omega (arith, l.invariant.few, N.further, N.to))

pub returns-in_err-row-in-Number : goal.returns-in_err-row-in-Number
returns-in_err-row-in-Number c =
    let l = c.loop-next in
    let told = sym c.next.ensures ∙ rw c.in-Number.is at c.in_ok-next.was in
    rw c.from_residual-in_err-row-in-Number.ensures (along_unlawful _ _ _ _ _ l.invariant _ _ told (rw c.in_err-row-in-Number.was at (c.take.ensures l.invariant.xs l.invariant.holds)))

pub loop-next-smaller : goal.loop-next-smaller
loop-next-smaller c =
    let l = c.loop-next in
    let told = sym c.next.ensures ∙ rw c.in-Number.is at c.in_ok-next.was in
    let N = token_number _ _ l.invariant.to _ _ told in
    omega (arith, N.further, N.to)

pub loop-next-preserved : goal.loop-next-preserved
loop-next-preserved c =
    let l = c.loop-next in
    let told = sym c.next.ensures ∙ rw c.in-Number.is at c.in_ok-next.was in
    along-more _ _ _ _ _ l.invariant _ _ told c.in_ok-row-in-Number.row (rw c.in_ok-row-in-Number.was at (c.take.ensures l.invariant.xs l.invariant.holds))
