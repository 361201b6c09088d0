-- Each public function's contract leaves one outcome: two results that it allows for the same arguments are equal.
use mathlib.Core.Path.{refl, sym, ◌∙◌}
use Rattle.outcome.specs.OneOutcome.{OneOutcome}
use Rattle.codes.specs.contracts.coded_graph as coded-graph
use Rattle.codes.proofs.coded_graph.Reads as coded-graph-reads
use Rattle.codes.specs.contracts.coded_mend as coded-mend
use Rattle.codes.proofs.coded_mend.Reads as coded-mend-reads
use Rattle.codes.specs.contracts.coded_bounds as coded-bounds
use Rattle.codes.proofs.coded_bounds.Reads as coded-bounds-reads
use Rattle.codes.specs.contracts.coded_second as coded-second
use Rattle.codes.proofs.coded_second.Reads as coded-second-reads
use Rattle.codes.specs.contracts.coded_enough as coded-enough
use Rattle.codes.proofs.coded_enough.Reads as coded-enough-reads
use Rattle.codes.specs.contracts.coded_late as coded-late
use Rattle.codes.proofs.coded_late.Reads as coded-late-reads
use Rattle.codes.specs.contracts.coded_start as coded-start
use Rattle.codes.proofs.coded_start.Reads as coded-start-reads
use Rattle.codes.specs.contracts.coded_report as coded-report
use Rattle.codes.proofs.coded_report.Reads as coded-report-reads
use Rattle.codes.specs.contracts.coded_tick as coded-tick
use Rattle.codes.proofs.coded_tick.Reads as coded-tick-reads
use Rattle.codes.specs.contracts.coded_count as coded-count
use Rattle.codes.proofs.coded_count.Reads as coded-count-reads
use Rattle.codes.specs.contracts.coded_finish as coded-finish
use Rattle.codes.proofs.coded_finish.Reads as coded-finish-reads

pub coded-graph-one : OneOutcome coded-graph.ended coded-graph-reads.Pre coded-graph-reads.Post
coded-graph-one κs a r r' ws ws' pre p q = (p ∙ sym q, refl)

pub coded-mend-one : OneOutcome coded-mend.ended coded-mend-reads.Pre coded-mend-reads.Post
coded-mend-one κs a r r' ws ws' pre p q = (p ∙ sym q, refl)

pub coded-bounds-one : OneOutcome coded-bounds.ended coded-bounds-reads.Pre coded-bounds-reads.Post
coded-bounds-one κs a r r' ws ws' pre p q = (p ∙ sym q, refl)

pub coded-second-one : OneOutcome coded-second.ended coded-second-reads.Pre coded-second-reads.Post
coded-second-one κs a r r' ws ws' pre p q = (p ∙ sym q, refl)

pub coded-enough-one : OneOutcome coded-enough.ended coded-enough-reads.Pre coded-enough-reads.Post
coded-enough-one κs a r r' ws ws' pre p q = (p ∙ sym q, refl)

pub coded-late-one : OneOutcome coded-late.ended coded-late-reads.Pre coded-late-reads.Post
coded-late-one κs a r r' ws ws' pre p q = (p ∙ sym q, refl)

pub coded-start-one : OneOutcome coded-start.ended coded-start-reads.Pre coded-start-reads.Post
coded-start-one κs a r r' ws ws' pre p q = (p ∙ sym q, refl)

pub coded-report-one : OneOutcome coded-report.ended coded-report-reads.Pre coded-report-reads.Post
coded-report-one κs a r r' ws ws' pre p q = (p ∙ sym q, refl)

pub coded-tick-one : OneOutcome coded-tick.ended coded-tick-reads.Pre coded-tick-reads.Post
coded-tick-one κs a r r' ws ws' pre p q = (p ∙ sym q, refl)

pub coded-count-one : OneOutcome coded-count.ended coded-count-reads.Pre coded-count-reads.Post
coded-count-one κs a r r' ws ws' pre p q = (p ∙ sym q, refl)

pub coded-finish-one : OneOutcome coded-finish.ended coded-finish-reads.Pre coded-finish-reads.Post
coded-finish-one κs a r r' ws ws' pre p q = (p ∙ sym q, refl)
