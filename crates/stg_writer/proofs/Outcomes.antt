-- The contract of the public function leaves one outcome: the answer, and what the lent room holds at the end.
use mathlib.Core.Path.{sym, ◌∙◌}
use Rattle.outcome.specs.OneOutcome.{OneOutcome}
use Rattle.stg_writer.specs.contracts.write as write
use Rattle.stg_writer.proofs.write.Reads as write-reads

pub write_outcome : OneOutcome write.ended write-reads.Pre write-reads.Post
write_outcome κs a r r' ws ws' pre p q = (p.0 ∙ sym q.0, λ i. (tt, ((p.1 ∙ sym q.1) i, tt)))
