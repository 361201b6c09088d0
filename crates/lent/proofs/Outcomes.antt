-- No public contract of this crate leaves a choice, of what was lent.
use mathlib.Core.Path.{refl, sym, ◌∙◌}
use mir.Syntax.{Dict}
use denote.RattleType.{RattleType}
use denote.Param.Laws.{Laws, IsCopy}
use Rattle.std.specs.declared.clone.Clone as clone
use Rattle.outcome.specs.OneOutcome.{OneOutcome}
use Rattle.lent.specs.contracts.hand_over as hand-over
use Rattle.lent.proofs.hand_over.Reads as hand-over-reads

module _ (T : RattleType) (L : Laws T) (C : IsCopy T) (t : clone.Ghosts T.Denot) (d : Dict) where
  pub hand_over-one : OneOutcome (hand-over.ended T t d) (hand-over-reads.Pre T L C t d) (hand-over-reads.Post T L C t d)
  hand_over-one κs a r r' ws ws' pre p q = (refl, λ i. (tt, ((p ∙ sym q) i, tt)))
