use mathlib.Core.Path.{refl}
use native.Mathlib.Omega.{arith}
use Rattle.starts.proofs.Together.{accepted-rows}
use Rattle.reader.proofs.Again.{none_again}
use Rattle.reader.proofs.along_rows.Goals as goal

pub predecessors-requires : goal.predecessors-requires
predecessors-requires c =
    let R = accepted-rows c.requires.accepted_graph c.starts-laid.ensures in
    record { edges_bound = R.few_edges; by_index = (λ i h. (omega (arith, R.from_known i h, R.few_vertices), omega (arith, R.to_known i h, R.few_vertices))); t_value = c.requires.pred_value }

pub cyclic-requires : goal.cyclic-requires
cyclic-requires c =
    record { rows = accepted-rows c.requires.accepted_graph c.starts-laid.ensures; holds = c.predecessors.ensures; order_len = refl }

pub returns : goal.returns
returns c =
    record { graph = refl; along = record { starts = c.starts-laid.ensures; order = c.cyclic.ensures.ordered (none_again c.requires.accepted_graph c.cyclic.ensures.value) }; rows = c.predecessors.ensures }
