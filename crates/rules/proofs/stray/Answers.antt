use Rattle.graph.specs.Rules.{rule2}
use Rattle.rules.proofs.stray.Goals as goal

pub returns : goal.returns
unfolding rule2
returns c = simp (c.word-word.ensures.0, c.byte-spare.ensures.0, c.order_of-order.ensures.0)
