-- No public contract of this crate leaves a choice, of the result or of what was lent.
use mathlib.Core.Path.{sym, ◌∙◌}
use Rattle.outcome.specs.OneOutcome.{OneOutcome}
use Rattle.replay.specs.contracts.replay as replay
use Rattle.replay.proofs.replay.Reads as replay-reads

-- what was lent, at the end: nothing of the file and the log, and the list of times
pub replay-one : OneOutcome replay.ended replay-reads.Pre replay-reads.Post
replay-one κs a r r' ws ws' pre p q = (p.0 ∙ sym q.0, λ i. (tt, (tt, ((p.1 ∙ sym q.1) i, tt))))
