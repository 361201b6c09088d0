-- No public contract of this crate leaves a choice, of the result or of what was lent.
use mathlib.Core.Path.{refl}
use Rattle.outcome.specs.OneOutcome.{OneOutcome}
use Rattle.gaining.proofs.Outcomes.{gains_unique}
use Rattle.gains.proofs.Unique.{gains-of_unique, altered-of_unique}
use Rattle.gains.specs.contracts.gains as gains
use Rattle.gains.proofs.gains.Reads as gains-reads
use Rattle.gains.specs.contracts.gains_altered as gains-altered
use Rattle.gains.proofs.gains_altered.Reads as gains-altered-reads
use Rattle.gains.specs.contracts.table as table
use Rattle.gains.proofs.table.Reads as table-reads

-- ws is what is lent, at the end: nothing of the file, and the list of out
pub gains-one : OneOutcome gains.ended gains-reads.Pre gains-reads.Post
gains-one κs a r r' ws ws' pre p q = let e = gains-of_unique p q in (e.0, λ i. (tt, (e.1 i, tt)))

pub gains-altered-one : OneOutcome gains-altered.ended gains-altered-reads.Pre gains-altered-reads.Post
gains-altered-one κs a r r' ws ws' pre p q = let e = altered-of_unique p q in (e.0, λ i. (tt, (tt, (tt, (e.1 i, tt)))))

pub table-one : OneOutcome table.ended table-reads.Pre table-reads.Post
table-one κs a r r' ws ws' pre p q = (gains_unique p q, refl)
