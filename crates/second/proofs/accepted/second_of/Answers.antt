use mathlib.Core.Path.{◌≡◌, refl, ◌∙◌}
use Prim.Native.Nat.{◌≤◌, min}
use native.Mathlib.Omega.{arith}
use Rattle.model.specs.PathCount.{path_count}
use Rattle.graph.specs.declared.Graph.{Graph}
use Rattle.graph.specs.Model.{as_model}
use Rattle.rows.proofs.Telling.{led-source}
use Rattle.ways.specs.Counts.{Counts}
use Rattle.ways.proofs.Counting.{counts-few, whole_is}
use Rattle.paths.specs.Ahead.{Sources}
use Rattle.visit.specs.Cells.{Ground}
use Rattle.second.specs.Answers.{too_many, found}
use Rattle.second.proofs.Grounds.{lists, laid, cores-some, ground}
use Rattle.second.proofs.accepted.second_of.Goals as goal
use Rattle.second.proofs.accepted.second_of.Goals.{After-led-led, After-shares-share, After-table-ways, After-whole-count, Else-count-gt4096, Start}

-- the graph that was laid
abbrev given : Start → Graph
given s = s.args.laid.now.graph

-- its sources are those that nobody leads to
unled : (c : After-led-led) → Sources (given (goal.at.After-led-led c).Start) c.led-led.result
unled c = led-source c.requires.usable.accepted c.requires.kin.predecessors c.led-led.result c.led-led.ensures

counts : (c : After-table-ways) → Counts (as_model (given (goal.at.After-table-ways c).Start)) c.table-ways.result
counts c = c.table-ways.ensures _ (lists c.requires.usable)

-- the number of its complete paths, cut
whole : (c : After-whole-count) → c.whole-count.result ≡ min 4097 (path_count (as_model (given (goal.at.After-whole-count c).Start)))
unfolding as_model
whole c =
    c.whole-count.ensures ∙ whole_is c.led-led.result (counts (goal.at.After-whole-count c).After-table-ways) (unled (goal.at.After-whole-count c).After-led-led)

-- there are no more than the limit
abbrev start : Else-count-gt4096 → Start
start c = (goal.at.Else-count-gt4096 c).Start

few : (c : Else-count-gt4096) → path_count (as_model (given (start c))) ≤ 4096
few c = omega (arith, whole (goal.at.Else-count-gt4096 c).After-whole-count, c.if-count-gt4096.false)

within : (c : Else-count-gt4096) → c.whole-count.result ≡ path_count (as_model (given (start c)))
within c = omega (arith, whole (goal.at.Else-count-gt4096 c).After-whole-count, c.if-count-gt4096.false)

grounds : (c : After-shares-share)
    → Ground (given (start (goal.at.After-shares-share c).Else-count-gt4096)) c.table-ways.result c.beside.new.t c.args.laid.now.graph.kind c.args.laid.now.graph.wcet c.shares-share.result
grounds c =
    let p = c.requires.usable in
    ground p (counts (goal.at.After-shares-share c).After-table-ways) (few (goal.at.After-shares-share c).Else-count-gt4096) (c.beside.ensures _ (lists p) refl c.requires.kin.ancestors) c.shares-share.ensures

pub led-led-requires : goal.led-led-requires
led-led-requires c = c.requires.usable.accepted.few_vertices

pub table-ways-requires : goal.table-ways-requires
table-ways-requires c = (_, lists c.requires.usable)

pub whole-count-requires : goal.whole-count-requires
whole-count-requires c = record { n_bound = c.requires.usable.accepted.few_vertices; by_index = counts-few (counts (goal.at.whole-count-requires c).After-table-ways) }

pub returns-then-count-gt4096 : goal.returns-then-count-gt4096
returns-then-count-gt4096 c = rw c.whole.ensures (too_many (omega (arith, whole (goal.at.returns-then-count-gt4096 c).After-whole-count, c.if-count-gt4096.true)) refl refl)

pub beside-requires : goal.beside-requires
beside-requires c = let p = c.requires in record { weighed = (_, lists p.usable, refl, p.kin.ancestors); t_value = refl }

pub shares-share-requires : goal.shares-share-requires
shares-share-requires c =
    let p = c.requires.usable in
    record { kinds_bound = p.accepted.few_kinds; by_index = cores-some p }

pub overflow_cast-count : goal.overflow_cast-count
overflow_cast-count c = omega (arith, c.if-count-gt4096.false)

pub largest-parts-requires : goal.largest-parts-requires
largest-parts-requires c =
    (_, grounds (goal.at.largest-parts-requires c).After-shares-share, laid c.requires.usable, unled (goal.at.largest-parts-requires c).After-led-led, refl, within (goal.at.largest-parts-requires c).Else-count-gt4096)

pub returns : goal.returns
returns c =
    found (few (goal.at.returns c).Else-count-gt4096) refl (c.largest-parts.ensures _ (grounds (goal.at.returns c).After-shares-share) (laid c.requires.usable) (unled (goal.at.returns c).After-led-led) refl (within (goal.at.returns c).Else-count-gt4096))
