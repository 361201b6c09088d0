-- No public contract of this crate leaves a choice.
use mathlib.Core.Path.{refl, sym, ◌∙◌}
use mathlib.Core.List.{[]}
use Rattle.outcome.specs.OneOutcome.{OneOutcome}
use Rattle.units.proofs.Outcomes.{same_parts}
use Rattle.weights.specs.contracts.volume.volume as volume
use Rattle.weights.proofs.volume.volume.Reads as volume-reads
use Rattle.weights.specs.contracts.volume.most_cores as most-cores
use Rattle.weights.proofs.volume.most_cores.Reads as most-cores-reads
use Rattle.weights.specs.contracts.weights as weights
use Rattle.weights.proofs.weights.Reads as weights-reads

pub volume-one : OneOutcome volume.ended volume-reads.Pre volume-reads.Post
volume-one κs a r r' ws ws' pre p q = (same_parts r r' p.0 q.0, refl)

pub most-cores-one : OneOutcome most-cores.ended most-cores-reads.Pre most-cores-reads.Post
most-cores-one κs a r r' ws ws' pre p q = (p [] ∙ sym (q []), refl)

pub weights-one : OneOutcome weights.ended weights-reads.Pre weights-reads.Post
weights-one κs a r r' ws ws' pre p q = (p ∙ sym q, refl)
