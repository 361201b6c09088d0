-- The contract of the public function leaves one outcome: the answer, and what the lent room holds at the end.
use mathlib.Core.Path.{sym, ◌∙◌}
use Rattle.outcome.specs.OneOutcome.{OneOutcome}
use Rattle.logs.specs.contracts.log as log
use Rattle.logs.proofs.log.Reads as log-reads

pub log-one : OneOutcome log.ended log-reads.Pre log-reads.Post
log-one κs a r r' ws ws' pre p q = (p.0 ∙ sym q.0, λ i. (tt, (tt, ((p.1 ∙ sym q.1) i, tt))))
