use mathlib.Core.Path.{◌≡◌, ap}
use mathlib.Core.List.{List}
use Prim.Native.Nat.{ℕ}
use native.Mathlib.Omega.{arith}
use Rattle.graph.specs.File.{no_graph_of}
use Rattle.graph.specs.declared.Graph.{Graph}
use Rattle.starts.specs.Starts.{Rows}
use Rattle.reader.specs.Steps.{Listed}
use Rattle.reader.proofs.Laying.{within, listed, laid-rows, drawn, tested}
use Rattle.reader.proofs.holds_cycle.Goals as goal
use Rattle.reader.proofs.holds_cycle.Goals.{After-starts-laid}

pub overflow_add-c : goal.overflow_add-c
overflow_add-c c =
    let w = within c.args.file.now c.args.c c.requires.faultless (λ i. (c.shared_slice_known-1.given i).fits) in
    omega (arith, w.0, w.1)

pub edge_of-requires : goal.edge_of-requires
unfolding no_graph_of
edge_of-requires c =
    let w = within c.args.file.now c.args.c c.requires.faultless (λ i. (c.shared_slice_known-1.given i).fits) in
    record { n_bound = (w.2, w.3); a_value = ap (λ (g : Graph). g.edge) c.requires.blank.graph }

pub starts-laid-requires : goal.starts-laid-requires
starts-laid-requires c =
    (within c.args.file.now c.args.c c.requires.faultless (λ i. (c.shared_slice_known-1.given i).fits)).2

-- the edges and their starts are those of the file's graph
given : (c : After-starts-laid) → Listed c.args.file.now c.edge_of.new.a c.starts-laid.result
given c =
    listed c.args.file.now c.args.c c.requires.faultless _ _ c.edge_of.ensures c.starts-laid.ensures

-- they go from one of the vertices to another
ends : (c : After-starts-laid) → Rows c.edge_of.new.a c.args.c.edges c.args.c.n c.starts-laid.result
ends c =
    laid-rows c.args.file.now c.args.c c.requires.faultless (λ i. (c.shared_slice_known-1.given i).fits) _ _ (given c)

pub predecessors-requires : goal.predecessors-requires
predecessors-requires c =
    let R = ends (goal.at.predecessors-requires c).After-starts-laid in
    record { edges_bound = R.few_edges; by_index = (λ i h. (omega (arith, R.from_known i h, R.few_vertices), omega (arith, R.to_known i h, R.few_vertices))); t_value = c.requires.blank.pred }

pub cyclic-requires : goal.cyclic-requires
cyclic-requires c =
    record { rows = ends (goal.at.cyclic-requires c).After-starts-laid; holds = c.predecessors.ensures; order_len = c.requires.blank.order }

pub returns : goal.returns
unfolding no_graph_of
returns c =
    let g = c.requires.blank.graph in
    let D = drawn c.args.file.now c.args.c c.requires.faultless _ (given (goal.at.returns c).After-starts-laid) c.predecessors.ensures
    (ap (λ (g : Graph). g.cores) g) (ap (λ (g : Graph). g.kind) g) (ap (λ (g : Graph). g.wcet) g) in
    tested c.args.file.now c.args.c c.requires.faultless c.cyclic.result _ D c.cyclic.ensures.value c.cyclic.ensures.ordered
