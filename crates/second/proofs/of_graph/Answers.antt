use mathlib.Core.Path.{refl}
use Rattle.rows.specs.Gathered.{Lined}
use Rattle.reader.proofs.Again.{usable_again}
use Rattle.second.proofs.of_graph.Goals as goal
use Rattle.second.proofs.of_graph.Goals.{After-along_rows}

-- the order goes along the edges, and the rows have the predecessors
along : (c : After-along_rows) → Lined c.args.g c.along_rows.new.laid.order c.args.g.n c.along_rows.new.laid.pred
along c =
    let e = c.along_rows.ensures in
    record { accepted = c.requires; order = e.along.order; vertices = refl; predecessors = e.rows }

pub ancestors-requires : goal.ancestors-requires
ancestors-requires c = record { lined = (_, along (goal.at.ancestors-requires c).After-along_rows); t_value = refl }

pub second_of-requires : goal.second_of-requires
second_of-requires c =
    let e = c.along_rows.ensures in
    record { usable = usable_again c.requires e; kin = rw e.graph (record { predecessors = e.rows; ancestors = c.ancestors.ensures _ (along (goal.at.second_of-requires c).After-along_rows) }) }

pub returns : goal.returns
returns c = rw c.along_rows.ensures.graph at c.second_of.ensures
