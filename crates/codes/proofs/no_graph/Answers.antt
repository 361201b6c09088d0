use mathlib.Core.Path.{refl}
use Rattle.graph.specs.File.{no_graph_of}
use Rattle.codes.proofs.no_graph.Goals as goal

pub returns : goal.returns
unfolding no_graph_of
returns c = refl
