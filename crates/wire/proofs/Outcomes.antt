-- No public contract of this crate leaves a choice.
use mathlib.Core.Path.{refl, sym, ◌∙◌}
use Rattle.outcome.specs.OneOutcome.{OneOutcome}
use Rattle.wire.specs.contracts.payload as payload
use Rattle.wire.proofs.payload.Reads as payload-reads
use Rattle.wire.specs.contracts.list as list
use Rattle.wire.proofs.list.Reads as list-reads
use Rattle.wire.specs.contracts.number as number
use Rattle.wire.proofs.number.Reads as number-reads
use Rattle.wire.specs.contracts.words as words
use Rattle.wire.proofs.words.Reads as words-reads
use Rattle.wire.specs.contracts.halves as halves
use Rattle.wire.proofs.halves.Reads as halves-reads

pub payload-one : OneOutcome payload.ended payload-reads.Pre payload-reads.Post
payload-one κs a r r' ws ws' pre p q = (p ∙ sym q, refl)

pub list-one : OneOutcome list.ended list-reads.Pre list-reads.Post
list-one κs a r r' ws ws' pre p q = (p.1 ∙ sym q.1, refl)

pub number-one : OneOutcome number.ended number-reads.Pre number-reads.Post
number-one κs a r r' ws ws' pre p q = (p ∙ sym q, refl)

-- what is lent, at the end: nothing of the bytes, and the list
pub words-one : OneOutcome words.ended words-reads.Pre words-reads.Post
words-one κs a r r' ws ws' pre p q = (p.0 ∙ sym q.0, λ i. (tt, ((p.1 ∙ sym q.1) i, tt)))

pub halves-one : OneOutcome halves.ended halves-reads.Pre halves-reads.Post
halves-one κs a r r' ws ws' pre p q = (p.0 ∙ sym q.0, λ i. (tt, ((p.1 ∙ sym q.1) i, tt)))
