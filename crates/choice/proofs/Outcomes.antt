-- No public contract of this crate leaves a choice.
use mathlib.Core.Path.{refl, sym, ◌∙◌}
use Rattle.outcome.specs.OneOutcome.{OneOutcome}
use Rattle.vset.proofs.Same.{same_set}
use Rattle.choice.proofs.OfKinds.{same-words}
use Rattle.choice.specs.contracts.set_at as set_at
use Rattle.choice.proofs.set_at.Reads as set-at-reads
use Rattle.choice.specs.contracts.of_kinds as of-kinds
use Rattle.choice.proofs.of_kinds.Reads as of-kinds-reads
use Rattle.choice.specs.contracts.chosen as chosen
use Rattle.choice.proofs.chosen.Reads as chosen-reads
use Rattle.choice.specs.contracts.fair as fair
use Rattle.choice.proofs.fair.Reads as fair-reads

pub set-at-one : OneOutcome set_at.ended set-at-reads.Pre set-at-reads.Post
set-at-one κs a r r' ws ws' pre p q = (p ∙ sym q, refl)

pub of-kinds-one : OneOutcome of-kinds.ended of-kinds-reads.Pre of-kinds-reads.Post
of-kinds-one κs a r r' ws ws' pre p q = (same-words r r' _ _ p q, refl)

pub chosen-one : OneOutcome chosen.ended chosen-reads.Pre chosen-reads.Post
chosen-one κs a r r' ws ws' pre p q = (same_set r r' _ p q, refl)

pub fair-one : OneOutcome fair.ended fair-reads.Pre fair-reads.Post
fair-one κs a r r' ws ws' pre p q = (p ∙ sym q, refl)
