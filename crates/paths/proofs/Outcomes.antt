-- No public contract of this crate leaves a choice, of the result or of what was lent.
use mathlib.Core.Path.{refl}
use Rattle.outcome.specs.OneOutcome.{OneOutcome}
use Rattle.paths.proofs.Unique.{summed_unique, traced_unique}
use Rattle.paths.specs.contracts.ahead.longest as longest
use Rattle.paths.proofs.ahead.longest.Reads as longest-reads
use Rattle.paths.specs.contracts.trace.trace as trace
use Rattle.paths.proofs.trace.trace.Reads as trace-reads

pub longest-one : OneOutcome longest.ended longest-reads.Pre longest-reads.Post
longest-one κs a r r' ws ws' pre p q =
    (summed_unique r r' (p pre.0 pre.1 pre.2) (q pre.0 pre.1 pre.2), refl)

-- of what is lent, the list of out is the sixth
pub trace-one : OneOutcome trace.ended trace-reads.Pre trace-reads.Post
trace-one κs a r r' ws ws' pre p q =
    let e = traced_unique _ _ _ _ (p pre.0 pre.1) (q pre.0 pre.1) in
    (e.0, λ i. (tt, (tt, (tt, (tt, (tt, (e.1 i, tt)))))))
