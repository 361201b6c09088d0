-- No public contract of this crate leaves a choice.
use mathlib.Core.Path.{refl, sym, ◌∙◌}
use Rattle.outcome.specs.OneOutcome.{OneOutcome}
use Rattle.faults.specs.contracts.of_text as of-text
use Rattle.faults.proofs.of_text.Reads as of-text-reads
use Rattle.faults.specs.contracts.of_number as of_number
use Rattle.faults.proofs.of_number.Reads as of-number-reads
use Rattle.faults.specs.contracts.of_name as of-name
use Rattle.faults.proofs.of_name.Reads as of-name-reads
use Rattle.faults.specs.contracts.of_number_alone as of-number-alone
use Rattle.faults.proofs.of_number_alone.Reads as of-number-alone-reads
use Rattle.faults.specs.contracts.of_stage as of-stage
use Rattle.faults.proofs.of_stage.Reads as of-stage-reads

pub of-text-one : OneOutcome of-text.ended of-text-reads.Pre of-text-reads.Post
of-text-one κs a r r' ws ws' pre p q = (p ∙ sym q, refl)

pub of-number-one : OneOutcome of_number.ended of-number-reads.Pre of-number-reads.Post
of-number-one κs a r r' ws ws' pre p q = (p ∙ sym q, refl)

pub of-name-one : OneOutcome of-name.ended of-name-reads.Pre of-name-reads.Post
of-name-one κs a r r' ws ws' pre p q = (p ∙ sym q, refl)

pub of-number-alone-one : OneOutcome of-number-alone.ended of-number-alone-reads.Pre of-number-alone-reads.Post
of-number-alone-one κs a r r' ws ws' pre p q = (p ∙ sym q, refl)

pub of-stage-one : OneOutcome of-stage.ended of-stage-reads.Pre of-stage-reads.Post
of-stage-one κs a r r' ws ws' pre p q = (p ∙ sym q, refl)
