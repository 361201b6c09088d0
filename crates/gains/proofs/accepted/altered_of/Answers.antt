use mathlib.Core.Path.{◌≡◌, refl}
use Prim.Native.Nat.{◌≤◌, ◌<◌}
use native.Mathlib.Omega.{arith}
use lib.ListN.{set}
use Rattle.model.specs.Gain.{with_wcet}
use Rattle.graph.specs.Model.{as_model}
use Rattle.reader.specs.Laid.{Usable}
use Rattle.reader.specs.declared.Laid.{Laid}
use Rattle.summary.specs.Tables.{Tables, Altering}
use Rattle.bounds.proofs.Weighing.{small-stages}
use Rattle.gaining.proofs.Accepted.{usable_weighed, usable_gainable, on_wcets, stored_model, stored_usable, stored_weighed, stored_altering}
use Rattle.gains.specs.Answers.{narrow, no_vertex, too_long, altered}
use Rattle.gains.proofs.Entries.{gains_handed}
use Rattle.gains.proofs.accepted.altered_of.Goals as goal
use Rattle.gains.proofs.accepted.altered_of.Goals.{After-altered-summary, After-weights-next, Else-out-n, Start}

pub returns-then-n-v : goal.returns-then-n-v
returns-then-n-v c = rw c.whole.ensures (no_vertex (omega arith))

pub returns-then-time-gt1000000 : goal.returns-then-time-gt1000000
returns-then-time-gt1000000 c = too_long (omega arith) (omega arith)

pub returns-then-out-n : goal.returns-then-out-n
unfolding as_model with_wcet
returns-then-out-n c = rw c.whole-then-out-n.ensures (altered (omega arith) (omega arith) (narrow (omega arith)))

-- what was laid, with the WCET stored
abbrev stored : Start → Laid
stored s = on_wcets s.args.laid.now (set s.args.laid.now.graph.wcet s.args.vertex s.args.time)

as_many : (s : Start) → s.args.laid.now.graph.n ≡ (as_model (stored s).graph).n
unfolding as_model
as_many s = refl

known : (c : Else-out-n) → c.args.vertex < c.args.laid.now.graph.n
known c = omega arith

low : (c : Else-out-n) → c.args.time ≤ 1000000
low c = omega arith

usable : (c : Else-out-n) → Usable (stored (goal.at.Else-out-n c).Start)
usable c = stored_usable c.requires.usable _ _ (known c) c.requires.wcet_len (low c)

pub weights-weight-requires : goal.weights-weight-requires
weights-weight-requires c = small-stages c.requires.usable.accepted

pub afresh-old-requires : goal.afresh-old-requires
afresh-old-requires c = (_, usable_weighed c.requires.usable c.weights-weight.ensures)

pub weights-next-requires : goal.weights-next-requires
weights-next-requires c = small-stages (usable (goal.at.weights-next-requires c).Else-out-n).accepted

-- what the update asks for: the summary as it was is one of the graph with the WCET stored, over the weights as they were
asked : (c : After-weights-next) → Altering (stored (goal.at.After-weights-next c).Start).graph c.args.laid.now.graph.edge c.args.laid.now.starts c.args.laid.now.order c.args.laid.now.graph.n c.weights-next.result c.afresh-old.result c.args.vertex
asked c =
    let is = c.weights-weight.ensures in
    stored_altering c.requires.usable _ _ (known (goal.at.After-weights-next c).Else-out-n) c.requires.wcet_len (low (goal.at.After-weights-next c).Else-out-n) is c.weights-next.ensures (c.afresh-old.ensures _ (stored_weighed c.requires.usable _ _ (known (goal.at.After-weights-next c).Else-out-n) c.requires.wcet_len (low (goal.at.After-weights-next c).Else-out-n) is))

pub altered-summary-requires : goal.altered-summary-requires
altered-summary-requires c = (_, asked (goal.at.altered-summary-requires c).After-weights-next)

summed : (c : After-altered-summary) → Tables (as_model (stored (goal.at.After-altered-summary c).Start).graph) c.weights-next.result c.altered-summary.result
summed c = c.altered-summary.ensures _ (asked (goal.at.After-altered-summary c).After-weights-next)

pub gains-gain-requires : goal.gains-gain-requires
gains-gain-requires c = (_, usable_gainable (usable (goal.at.gains-gain-requires c).Else-out-n) c.weights-next.ensures (summed (goal.at.gains-gain-requires c).After-altered-summary))

pub returns : goal.returns
returns c =
    let f = gains_handed (as_model (stored (goal.at.returns c).Start).graph) c.args.laid.now.graph.n (as_many (goal.at.returns c).Start) (omega arith) (omega arith) (c.gains-gain.ensures _ (usable_gainable (usable (goal.at.returns c).Else-out-n) c.weights-next.ensures (summed (goal.at.returns c).After-altered-summary))) c.hand_over.ensures in
    altered (known (goal.at.returns c).Else-out-n) (low (goal.at.returns c).Else-out-n) (rw (stored_model c.requires.usable c.args.vertex c.args.time (known (goal.at.returns c).Else-out-n) c.requires.wcet_len) at f)
