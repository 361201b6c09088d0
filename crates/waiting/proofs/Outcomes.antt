-- No public contract of this crate leaves a choice.
use mathlib.Core.Path.{refl, sym, ◌∙◌}
use Rattle.outcome.specs.OneOutcome.{OneOutcome}
use Rattle.vset.proofs.Same.{same_set}
use Rattle.waiting.proofs.Numbers.{settled-one}
use Rattle.waiting.specs.contracts.settle as settle
use Rattle.waiting.proofs.settle.Reads as settle-reads
use Rattle.waiting.specs.contracts.begun as begun
use Rattle.waiting.proofs.begun.Reads as begun-reads
use Rattle.waiting.specs.contracts.held as held
use Rattle.waiting.proofs.held.Reads as held_reads
use Rattle.waiting.specs.contracts.agree as agree
use Rattle.waiting.proofs.agree.Reads as agree-reads

-- where there is no cycle, the busy vertices say all the numbers and who stands behind
pub settle-one : OneOutcome settle.ended settle-reads.Pre settle-reads.Post
settle-one κs a r r' ws ws' pre p q =
    let e = settled-one a.0.now a.1.0.now pre.0 ws.1.1.0 ws'.1.1.0 _ r r' p q in
    (e.0, λ i. (tt, (tt, (e.1 i, ws.1.1.1))))

pub begun-one : OneOutcome begun.ended begun-reads.Pre begun-reads.Post
begun-one κs a r r' ws ws' pre p q =
    let e = settled-one a.1.0.now a.1.1.0.now pre.0 r.waiting r'.waiting _ r.behind r'.behind p q in
    (λ i. record { waiting = e.1 i; behind = e.0 i }, refl)

pub held_one : OneOutcome held.ended held_reads.Pre held_reads.Post
held_one κs a r r' ws ws' pre p q = (same_set r r' _ p q, refl)

pub agree-one : OneOutcome agree.ended agree-reads.Pre agree-reads.Post
agree-one κs a r r' ws ws' pre p q = (p ∙ sym q, refl)
