use native.Mathlib.Omega.{arith}
use Rattle.graph.specs.Model.{as_model}
use Rattle.graph.specs.declared.Graph.{Graph}
use Rattle.rows.proofs.Telling.{led-source}
use Rattle.paths.specs.Ahead.{weigh, Weighed, Sources, Summed}
use Rattle.paths.specs.Trace.{Traceable}
use Rattle.weights.specs.declared.Measure.TheVariants.{Scaled}
use Rattle.bounds.specs.Answers.{narrow}
use Rattle.bounds.proofs.Weighing.{small-stages, weighed_by, scaled-most}
use Rattle.bounds.proofs.Entries.{path-found}
use Rattle.bounds.proofs.accepted.path_of.Goals as goal
use Rattle.bounds.proofs.accepted.path_of.Goals.{After-led-led, After-longest-sums, After-trace-arg-2-1, After-weights-weight, Start}

-- the graph that the lists are
abbrev given : Start → Graph
given s = s.args.laid.now.graph

pub returns-then-out-g : goal.returns-then-out-g
returns-then-out-g c = rw c.whole.ensures (narrow (omega arith))

pub weights-weight-requires : goal.weights-weight-requires
weights-weight-requires c = small-stages c.requires.accepted

-- the weights of the graph, and its sums
weighed : (c : After-weights-weight) → Weighed (given (goal.at.After-weights-weight c).Start) c.args.laid.now.graph.edge c.args.laid.now.starts c.args.laid.now.order c.args.laid.now.graph.n c.weights-weight.result
weighed c =
    let p = c.requires in
    weighed_by p.accepted p.along Scaled 720720000000 (scaled-most p.accepted) (omega arith) c.weights-weight.ensures

pub led-led-requires : goal.led-led-requires
led-led-requires c = c.requires.accepted.few_vertices

-- the sources are those that nobody leads to
unled : (c : After-led-led) → Sources (given (goal.at.After-led-led c).Start) c.led-led.result
unled c = let p = c.requires in led-source p.accepted p.rows c.led-led.result c.led-led.ensures

summed : (c : After-longest-sums) → Summed (as_model (given (goal.at.After-longest-sums c).Start)) (weigh c.weights-weight.result) c.longest-sums.result
summed c = c.longest-sums.ensures _ (weighed (goal.at.After-longest-sums c).After-weights-weight) (unled (goal.at.After-longest-sums c).After-led-led)

pub longest-sums-requires : goal.longest-sums-requires
longest-sums-requires c = (_, weighed (goal.at.longest-sums-requires c).After-weights-weight, unled (goal.at.longest-sums-requires c).After-led-led)

traceable : (c : After-trace-arg-2-1)
    → Traceable (given (goal.at.After-trace-arg-2-1 c).Start) c.args.laid.now.graph.edge c.args.laid.now.starts c.weights-weight.result c.longest-sums.result.ahead c.longest-sums.result.head c.args.out.now
unfolding as_model
traceable c =
    let w = weighed (goal.at.After-trace-arg-2-1 c).After-weights-weight in
    record { rows = w.rows; light = w.light; longest = (summed (goal.at.After-trace-arg-2-1 c).After-longest-sums).longest; vertex = (summed (goal.at.After-trace-arg-2-1 c).After-longest-sums).head.known; room = omega arith }

pub trace-requires : goal.trace-requires
trace-requires c = (_, traceable c)

pub returns : goal.returns
returns c =
    path-found c.requires.accepted _ _ c.weights-weight.ensures (summed (goal.at.returns c).After-longest-sums) (traceable (goal.at.returns c).After-trace-arg-2-1).room (c.trace.ensures _ (traceable (goal.at.returns c).After-trace-arg-2-1))
