use Rattle.graph.specs.Rules.{rule9}
use Rattle.rules.proofs.wrong_edge.Goals as goal

pub returns : goal.returns
unfolding rule9
returns c =
    simp (c.byte-to.ensures.0, c.byte-from.ensures.0, c.order_of-order.ensures.0, c.requires.1)
