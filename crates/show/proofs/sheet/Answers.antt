-- What is printed of an accepted graph rests on its being one.
use Rattle.graph.specs.Model.{AcceptedGraph}
use Rattle.reader.proofs.Laying.{read-accepted}
use Rattle.show.proofs.sheet.Goals as goal
use Rattle.show.proofs.sheet.Goals.{In-Ok}

-- the reader's graph, where it accepts
accepted : (c : In-Ok) → AcceptedGraph c.in-Ok.g
accepted c = read-accepted c.args.file.now c.read.ensures (λ i. (c.type_inv.file i).fits) c.in-Ok.is

pub figures-requires : goal.figures-requires
figures-requires c = accepted (goal.at.figures-requires c).In-Ok

pub path-requires : goal.path-requires
path-requires c = accepted (goal.at.path-requires c).In-Ok

pub by_gain-requires : goal.by_gain-requires
by_gain-requires c = accepted (goal.at.by_gain-requires c).In-Ok
