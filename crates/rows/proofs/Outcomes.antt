-- No public contract of this crate leaves a choice, of the result or of what was lent.
use mathlib.Core.Path.{refl, sym, ◌∙◌}
use Rattle.outcome.specs.OneOutcome.{OneOutcome}
use Rattle.sets.proofs.Tables.{holds_unique}
use Rattle.rows.specs.contracts.predecessors as predecessors
use Rattle.rows.proofs.predecessors.Reads as predecessors-reads
use Rattle.rows.specs.contracts.counted as counted
use Rattle.rows.proofs.counted.Reads as counted-reads
use Rattle.rows.specs.contracts.led as led
use Rattle.rows.proofs.led.Reads as led-reads
use Rattle.rows.specs.contracts.common as common
use Rattle.rows.proofs.common.Reads as common-reads
use Rattle.rows.specs.contracts.ancestors as ancestors
use Rattle.rows.proofs.ancestors.Reads as ancestors-reads

pub predecessors-one : OneOutcome predecessors.ended predecessors-reads.Pre predecessors-reads.Post
predecessors-one κs a r r' ws ws' pre p q = let e = holds_unique p q in (refl, λ i. (tt, (tt, (e i, tt))))

pub counted-one : OneOutcome counted.ended counted-reads.Pre counted-reads.Post
counted-one κs a r r' ws ws' pre p q = (p ∙ sym q, refl)

pub led-one : OneOutcome led.ended led-reads.Pre led-reads.Post
led-one κs a r r' ws ws' pre p q = (p ∙ sym q, refl)

pub common-one : OneOutcome common.ended common-reads.Pre common-reads.Post
common-one κs a r r' ws ws' pre p q = (p ∙ sym q, refl)

pub ancestors-one : OneOutcome ancestors.ended ancestors-reads.Pre ancestors-reads.Post
ancestors-one κs a r r' ws ws' pre p q = let e = holds_unique (p pre.0.0 pre.0.1) (q pre.0.0 pre.0.1) in (refl, λ i. (tt, (tt, (tt, (e i, tt)))))
