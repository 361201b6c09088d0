use mathlib.Core.Path.{refl}
use Rattle.graph.specs.File.{no_graph_of}
use Rattle.reader.proofs.Laid.blank.Goals as goal

pub returns : goal.returns
unfolding no_graph_of
returns c = record { graph = refl; order = refl; pred = refl }
