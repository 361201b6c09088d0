use mathlib.Core.Path.{refl}
use native.Mathlib.Omega.{arith}
use Rattle.graph.specs.declared.Graph.{Graph}
use Rattle.enough.proofs.Entries.{of_no_kind, of_none, of-found}
use Rattle.enough.proofs.accepted.fewest_of.Goals as goal
use Rattle.enough.proofs.accepted.fewest_of.Goals.{Start}

-- the graph that was laid
abbrev given : Start → Graph
given s = s.args.laid.now.graph

pub returns-then-laid-s : goal.returns-then-laid-s
returns-then-laid-s c = rw c.whole.ensures (of_no_kind (given (goal.at.returns-then-laid-s c).Start) (omega arith) refl refl)

pub returns-then-c-gt16 : goal.returns-then-c-gt16
returns-then-c-gt16 c =
    rw c.whole-then-c-gt16.ensures (of_none (given (goal.at.returns-then-c-gt16 c).Start) (omega arith) c.smallest-c.ensures (omega arith) refl refl)

pub returns : goal.returns
returns c = of-found (given (goal.at.returns c).Start) (omega arith) c.smallest-c.ensures (omega arith) refl refl
