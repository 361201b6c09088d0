use mathlib.Core.Path.{◌≡◌, refl, ap, ap₂, ◌∙◌}
use mathlib.Core.List.{[]}
use Prim.Native.Nat.{ℕ, ◌+◌, ◌-◌, ◌*◌, ◌/◌}
use native.Mathlib.Omega.{arith}
use Rattle.model.specs.Bounds.{PARTS, vol, volume, used, most_cores_of}
use Rattle.model.proofs.Compare.{some-cores}
use Rattle.graph.specs.Model.{as_model}
use Rattle.graph.specs.declared.Graph.{Graph}
use Rattle.rows.proofs.Telling.{led-source}
use Rattle.paths.specs.Ahead.{Sources}
use Rattle.weights.specs.declared.Measure.TheVariants.{Plain, Scaled}
use Rattle.bounds.proofs.Weighing.{small-stages, weighed_by, greatest_by, small_by, plain-most, plain-is, scaled-most, scaled-is}
use Rattle.bounds.proofs.accepted.figures_of.Goals as goal
use Rattle.bounds.proofs.accepted.figures_of.Goals.{After-led-led, After-most_cores, After-volume-shares, Start}

-- the graph that the lists are
abbrev given : Start → Graph
given s = s.args.laid.now.graph

pub led-led-requires : goal.led-led-requires
led-led-requires c = c.requires.accepted.few_vertices

-- the sources are those that nobody leads to
unled : (c : After-led-led) → Sources (given (goal.at.After-led-led c).Start) c.led-led.result
unled c = led-source c.requires.accepted c.requires.rows c.led-led.result c.led-led.ensures

pub volume-shares-requires : goal.volume-shares-requires
volume-shares-requires c = small-stages c.requires.accepted

pub weights-plain-requires : goal.weights-plain-requires
weights-plain-requires c = small-stages c.requires.accepted

pub weights-scaled-requires : goal.weights-scaled-requires
weights-scaled-requires c = small-stages c.requires.accepted

pub largest-requires : goal.largest-requires
largest-requires c =
    let p = c.requires in
    (_, weighed_by p.accepted p.along Plain 1000000 (plain-most p.accepted) (omega arith) c.weights-plain.ensures, unled (goal.at.largest-requires c).After-led-led)

pub most_cores-requires : goal.most_cores-requires
most_cores-requires c =
    (c.args.laid.now.graph.wcet, small-stages c.requires.accepted)

-- what the code finds are the most cores
cores : (c : After-most_cores) → c.most_cores.result ≡ most_cores_of (as_model (given (goal.at.After-most_cores c).Start))
unfolding most_cores_of used as_model
cores c = c.most_cores.ensures []

pub old_b-old-requires : goal.old_b-old-requires
old_b-old-requires c =
    let p = c.requires in (
      small_by p.accepted p.along Plain 1000000 (plain-most p.accepted) (omega arith) c.weights-plain.ensures c.led-led.result (unled (goal.at.old_b-old-requires c).After-led-led) c.largest.result c.largest.ensures,
      rw (cores c) (some-cores p.accepted.well_formed),
      c.volume-shares.ensures.result_bound,
    )

pub largest-requires-2 : goal.largest-requires-2
largest-requires-2 c =
    let p = c.requires in
    (_, weighed_by p.accepted p.along Scaled 720720000000 (scaled-most p.accepted) (omega arith) c.weights-scaled.ensures, unled (goal.at.largest-requires-2 c).After-led-led)

pub plus-new-requires : goal.plus-new-requires
plus-new-requires c =
    let p = c.requires in
    omega (arith, small_by p.accepted p.along Scaled 720720000000 (scaled-most p.accepted) (omega arith) c.weights-scaled.ensures c.led-led.result (unled (goal.at.plus-new-requires c).After-led-led) c.largest-2.result c.largest-2.ensures, c.volume-shares.ensures.result_bound)

-- what the code adds up is the volume
shares : (c : After-volume-shares) → c.volume-shares.result.0 ≡ volume (as_model (given (goal.at.After-volume-shares c).Start))
unfolding vol volume as_model
shares c = c.volume-shares.ensures.result_value

pub returns : goal.returns
returns c =
    let p = c.requires in
    let v = shares (goal.at.returns c).After-volume-shares in
    let x = c.largest.result in
    let y = c.largest-2.result in record {
      old = record {
        len = x;
        longest = rw (plain-is (as_model (given (goal.at.returns c).Start))) at (greatest_by p.accepted p.along Plain 1000000 (plain-most p.accepted) (omega arith) c.weights-plain.ensures c.led-led.result (unled (goal.at.returns c).After-led-led) x c.largest.ensures);
        is = c.old_b-old.ensures ∙ ap₂ (λ (m z : ℕ). (PARTS - PARTS / m) * x + z) (cores (goal.at.returns c).After-most_cores) v;
      };
      new = record {
        len = y;
        longest = rw (scaled-is (as_model (given (goal.at.returns c).Start))) at (greatest_by p.accepted p.along Scaled 720720000000 (scaled-most p.accepted) (omega arith) c.weights-scaled.ensures c.led-led.result (unled (goal.at.returns c).After-led-led) y c.largest-2.ensures);
        is = c.plus-new.ensures ∙ ap (λ (z : ℕ). y + z) v;
      };
      ticks = c.ticks.ensures;
    }
