-- No public contract of this crate leaves a choice.
use mathlib.Core.Path.{◌≡◌, refl, sym, ◌∙◌}
use Rattle.outcome.specs.OneOutcome.{OneOutcome}
use Rattle.vset.proofs.Same.{same_set}
use Rattle.remains.proofs.Fewest.{least-same}
use Rattle.remains.specs.contracts.least as least
use Rattle.remains.proofs.least.Reads as least-reads
use Rattle.remains.specs.contracts.lower as lower
use Rattle.remains.proofs.lower.Reads as lower-reads
use Rattle.remains.specs.contracts.within as within
use Rattle.remains.proofs.within.Reads as within-reads
use Rattle.remains.specs.contracts.total as total
use Rattle.remains.proofs.total.Reads as total-reads
use Rattle.remains.specs.contracts.in_time as in_time
use Rattle.remains.proofs.in_time.Reads as in-time-reads

pub least-one : OneOutcome least.ended least-reads.Pre least-reads.Post
least-one κs a r r' ws ws' pre p q = (least-same _ _ _ r r' p q, refl)

pub lower-one : OneOutcome lower.ended lower-reads.Pre lower-reads.Post
lower-one κs a r r' ws ws' pre p q =
    let e : ws.0 ≡ ws'.0 = p.0 ∙ sym q.0 in
    let over = same_set r.over r'.over _ (rw e at p.1.0) q.1.0 in
    let least = least-same _ _ _ r.least r'.least (rw e at p.1.1) q.1.1 in
    (λ i. record { over = over i; least = least i }, λ i. (e i, ws.1))

pub within-one : OneOutcome within.ended within-reads.Pre within-reads.Post
within-one κs a r r' ws ws' pre p q = (p ∙ sym q, refl)

pub total-one : OneOutcome total.ended total-reads.Pre total-reads.Post
total-one κs a r r' ws ws' pre p q = (p ∙ sym q, refl)

pub in_time-one : OneOutcome in_time.ended in-time-reads.Pre in-time-reads.Post
in_time-one κs a r r' ws ws' pre p q = (p ∙ sym q, refl)
