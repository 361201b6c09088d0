use mathlib.Core.Path.{ap, ◌∙◌}
use Prim.Native.Nat.{ℕ, ◌+◌}
use native.Mathlib.Omega.{arith}
use Rattle.graph.specs.Model.{as_model}
use Rattle.graph.specs.declared.Graph.{Graph}
use Rattle.rows.proofs.Telling.{led-source}
use Rattle.reader.specs.Laid.{on_cores}
use Rattle.paths.specs.Ahead.{Sources}
use Rattle.weights.specs.declared.Measure.TheVariants.{Scaled}
use Rattle.bounds.proofs.Weighing.{small-stages, weighed_by, greatest_by, small_by, scaled-most, scaled-is}
use Rattle.bounds.proofs.new_of.Goals as goal
use Rattle.bounds.proofs.new_of.Goals.{After-led-led, Start}

-- the graph that the lists are
abbrev given : Start → Graph
given s = (on_cores s.args.laid.now s.args.cores.now).graph

pub led-led-requires : goal.led-led-requires
led-led-requires c = c.requires.usable.accepted.few_vertices

-- the sources are those that nobody leads to
unled : (c : After-led-led) → Sources (given (goal.at.After-led-led c).Start) c.led-led.result
unled c = led-source c.requires.usable.accepted c.requires.usable.rows c.led-led.result c.led-led.ensures

pub weights-weight-requires : goal.weights-weight-requires
weights-weight-requires c = small-stages c.requires.usable.accepted

pub largest-requires : goal.largest-requires
largest-requires c =
    let p = c.requires.usable in
    (_, weighed_by p.accepted p.along Scaled 720720000000 (scaled-most p.accepted) (omega arith) c.weights-weight.ensures, unled (goal.at.largest-requires c).After-led-led)

pub plus-requires : goal.plus-requires
plus-requires c =
    let p = c.requires.usable in
    omega (arith, small_by p.accepted p.along Scaled 720720000000 (scaled-most p.accepted) (omega arith) c.weights-weight.ensures c.led-led.result (unled (goal.at.plus-requires c).After-led-led) c.largest.result c.largest.ensures, c.requires.shares_value.1)

pub returns : goal.returns
returns c =
    let p = c.requires.usable in
    let y = c.largest.result in
    record {
      len = y;
      longest = rw (scaled-is (as_model (given (goal.at.returns c).Start))) at (greatest_by p.accepted p.along Scaled 720720000000 (scaled-most p.accepted) (omega arith) c.weights-weight.ensures c.led-led.result (unled (goal.at.returns c).After-led-led) y c.largest.ensures);
      is = c.plus.ensures ∙ ap (λ (z : ℕ). y + z) c.requires.shares_value.0;
    }
