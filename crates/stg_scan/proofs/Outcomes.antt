-- No public contract of this crate leaves a choice.
use mathlib.Core.Path.{refl, sym, ◌∙◌}
use Rattle.outcome.specs.OneOutcome.{OneOutcome}
use Rattle.stg_scan.specs.contracts.skip as skip
use Rattle.stg_scan.proofs.skip.Reads as skip-reads
use Rattle.stg_scan.specs.contracts.feed_at as feed-at
use Rattle.stg_scan.proofs.feed_at.Reads as feed-at-reads
use Rattle.stg_scan.specs.contracts.next as next
use Rattle.stg_scan.proofs.next.Reads as next-reads

pub skip-one : OneOutcome skip.ended skip-reads.Pre skip-reads.Post
skip-one κs a r r' ws ws' pre p q = (p.0 ∙ sym q.0, refl)

pub feed-at-one : OneOutcome feed-at.ended feed-at-reads.Pre feed-at-reads.Post
feed-at-one κs a r r' ws ws' pre p q = (p.0 ∙ sym q.0, refl)

pub next_one : OneOutcome next.ended next-reads.Pre next-reads.Post
next_one κs a r r' ws ws' pre p q = (p ∙ sym q, refl)
