-- No public contract of this crate leaves a choice.
use mathlib.Core.Path.{refl, sym, ◌∙◌}
use Rattle.outcome.specs.OneOutcome.{OneOutcome}
use Rattle.starts.specs.contracts.from as from
use Rattle.starts.proofs.from.Reads as from-reads
use Rattle.starts.specs.contracts.to as to
use Rattle.starts.proofs.to.Reads as to_reads
use Rattle.starts.specs.contracts.starts as starts
use Rattle.starts.proofs.starts.Reads as starts-reads

pub starts-one : OneOutcome starts.ended starts-reads.Pre starts-reads.Post
starts-one κs a r r' ws ws' pre p q = (p ∙ sym q, refl)

pub from_one : OneOutcome from.ended from-reads.Pre from-reads.Post
from_one κs a r r' ws ws' pre p q = (p ∙ sym q, refl)

pub to_one : OneOutcome to.ended to_reads.Pre to_reads.Post
to_one κs a r r' ws ws' pre p q = (p ∙ sym q, refl)
