-- No public contract of this crate leaves a choice.
use mathlib.Core.Path.{refl, sym, ◌∙◌}
use Rattle.outcome.specs.OneOutcome.{OneOutcome}
use Rattle.tick.specs.contracts.Run.tick as tick
use Rattle.tick.proofs.Run.tick.Reads as tick-reads
use Rattle.tick.specs.contracts.suits as suits
use Rattle.tick.proofs.suits.Reads as suits-reads

pub tick-one : OneOutcome tick.ended tick-reads.Pre tick-reads.Post
tick-one κs a r r' ws ws' pre p q = (p pre.0 pre.1 pre.2 ∙ sym (q pre.0 pre.1 pre.2), refl)

pub suits-one : OneOutcome suits.ended suits-reads.Pre suits-reads.Post
suits-one κs a r r' ws ws' pre p q = (p pre.0 pre.1 ∙ sym (q pre.0 pre.1), refl)
