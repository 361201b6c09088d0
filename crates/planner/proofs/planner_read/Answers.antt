use mathlib.Core.Path.{◌∙◌, ap}
use Rattle.codes.specs.Coded.{coded_graph_of}
use Rattle.planner.proofs.Reading.{graph_given}
use Rattle.planner.proofs.planner_read.Goals as goal

pub returns : goal.returns
returns c = c.coded_graph.ensures ∙ ap coded_graph_of (graph_given c.args.file.now c.take_rows-answer.new.laid c.take_rows-answer.result c.take_rows-answer.ensures.taken_into)
