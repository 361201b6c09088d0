use mathlib.Core.Path.{refl}
use native.Mathlib.Omega.{arith}
use Rattle.graph.specs.Model.{as_model}
use Rattle.gains.specs.Answers.{narrow}
use Rattle.gains.proofs.Entries.{gains_handed}
use Rattle.gains.proofs.accepted.gains_of.Goals as goal

pub returns-then-out-n : goal.returns-then-out-n
unfolding as_model
returns-then-out-n c = rw c.whole.ensures (narrow (omega arith))

pub returns : goal.returns
unfolding as_model
returns c =
    gains_handed _ c.args.laid.now.graph.n refl (omega arith) (omega arith) c.table_of-gain.ensures c.hand_over.ensures
