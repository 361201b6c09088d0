-- No public contract of this crate leaves a choice, of the result or of what was lent.
use mathlib.Core.Path.{refl, sym, ◌∙◌}
use Rattle.outcome.specs.OneOutcome.{OneOutcome}
use Rattle.sets.specs.contracts.row as row
use Rattle.sets.proofs.row.Reads as row_reads
use Rattle.sets.specs.contracts.put as put
use Rattle.sets.proofs.put.Reads as put_reads
use Rattle.sets.specs.contracts.join as join
use Rattle.sets.proofs.join.Reads as join-reads

pub row_one : OneOutcome row.ended row_reads.Pre row_reads.Post
row_one κs a r r' ws ws' pre p q = (p ∙ sym q, refl)

pub put_one : OneOutcome put.ended put_reads.Pre put_reads.Post
put_one κs a r r' ws ws' pre p q = (refl, λ i. ((p ∙ sym q) i, (tt, (tt, tt))))

pub join_one : OneOutcome join.ended join-reads.Pre join-reads.Post
join_one κs a r r' ws ws' pre p q = (refl, λ i. ((p ∙ sym q) i, (tt, (tt, tt))))
