use mathlib.Core.Path.{◌≡◌}
use mathlib.Core.Bool.{true}
use Rattle.model.specs.Places.{table}
use Rattle.waiting.specs.Waiting.{entering}
use Rattle.waiting.proofs.Rows.{all_edges, ones-count}
use Rattle.cycle.specs.Line.{Line}
use Rattle.cycle.proofs.Line.{line-begins}
use Rattle.cycle.proofs.Cycles.{left-tells}
use Rattle.cycle.proofs.cyclic.Goals as goal
use Rattle.cycle.proofs.cyclic.Goals.{After-counted-waiting, After-take_up-found, After-unled-first}

pub counted-waiting-requires : goal.counted-waiting-requires
counted-waiting-requires c = c.requires.rows.few_vertices

pub unled-first-requires : goal.unled-first-requires
unled-first-requires c = record { n_bound = c.requires.rows.few_vertices; order_len = c.requires.order_len }

-- each edge is counted
counts : (c : After-counted-waiting) → c.counted-waiting.result ≡ table (entering c.args.edge.now (λ u. true) c.args.edges) 128
counts c = ones-count c.requires.rows _ c.counted-waiting.result c.requires.holds c.counted-waiting.ensures

begun : (c : After-unled-first) → Line c.args.edge.now c.args.edges c.args.n c.counted-waiting.result c.unled-first.new.order 0 c.unled-first.result
begun c = line-begins c.requires.rows c.counted-waiting.result c.unled-first.new.order c.unled-first.result (counts (goal.at.After-unled-first c).After-counted-waiting) c.unled-first.ensures

pub take_up-found-requires : goal.take_up-found-requires
take_up-found-requires c =
    let R = c.requires.rows in
    let L = begun (goal.at.take_up-found-requires c).After-unled-first in
    rw (all_edges R, L.rest) record { rows = R; line = L }

-- everyone in the line has told its successors
told : (c : After-take_up-found) → Line c.args.edge.now c.args.edges c.args.n c.take_up-found.new.waiting c.take_up-found.new.order c.take_up-found.result c.take_up-found.result
told c = rw (all_edges c.requires.rows, (begun (goal.at.After-take_up-found c).After-unled-first).rest) at c.take_up-found.ensures

pub returns : goal.returns
returns c =
    let whole = left-tells c.requires.rows (told c) in
    record { value = whole.0; ordered = whole.1 }
