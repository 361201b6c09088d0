use mathlib.Core.Path.{◌≡◌, refl, sym, ◌∙◌}
use Rattle.graph.specs.declared.Graph.{Graph}
use Rattle.choice.proofs.ByKind.{kinds-known}
use Rattle.tick.specs.Lists.{ListsOf, TestOf}
use Rattle.tick.specs.Suits.{suits}
use Rattle.schedule.specs.Tick.{tick_on_of}
use Rattle.schedule.proofs.tick_on.Goals as goal
use Rattle.schedule.proofs.tick_on.Goals.{After-of_kinds-words, After-suits, Start}

-- the graph that is laid
abbrev lent : Start → Graph
lent s = s.args.laid.now.graph

test : (c : After-of_kinds-words) → TestOf (lent (goal.at.After-of_kinds-words c).Start) c.args.laid.now.graph.kinds c.args.laid.now.graph.n c.args.laid.now.graph.cores c.of_kinds-words.result c.args.laid.now.graph.wcet c.args.laid.now.pred
test c = record { accepted = c.requires.accepted; kinds_are = refl; n_is = refl; cores_are = refl; words_are = c.of_kinds-words.ensures; wcet_is = refl; rows_are = c.requires.rows }

lists : (c : After-of_kinds-words) → ListsOf (lent (goal.at.After-of_kinds-words c).Start) c.args.laid.now.graph.kinds c.args.laid.now.graph.cores c.of_kinds-words.result c.args.laid.now.graph.edge c.args.laid.now.starts
lists c = record { accepted = c.requires.accepted; kinds_are = refl; cores_are = refl; words_are = c.of_kinds-words.ensures; edges_are = refl; starts_are = c.requires.along.starts }

suited : (c : After-suits) → c.suits.result ≡ suits (lent (goal.at.After-suits c).Start) c.args.run
suited c = c.suits.ensures (lent (goal.at.After-suits c).Start) (test (goal.at.After-suits c).After-of_kinds-words)

pub of_kinds-words-requires : goal.of_kinds-words-requires
of_kinds-words-requires c = record { n_bound = c.requires.accepted.few_vertices; by_index = kinds-known (lent c) c.requires.accepted }

pub suits-requires : goal.suits-requires
suits-requires c = (lent (goal.at.suits-requires c).Start, test (goal.at.suits-requires c).After-of_kinds-words)

pub tick-requires : goal.tick-requires
tick-requires c =
    (lent (goal.at.tick-requires c).Start, lists (goal.at.tick-requires c).After-of_kinds-words, sym (suited (goal.at.tick-requires c).After-suits) ∙ c.if-suits.true)

pub returns-then-suits : goal.returns-then-suits
unfolding tick_on_of
returns-then-suits c =
    rw (← suited (goal.at.returns-then-suits c).After-suits, c.if-suits.true) (c.tick.ensures (lent (goal.at.returns-then-suits c).Start) (lists (goal.at.returns-then-suits c).After-of_kinds-words) (sym (suited (goal.at.returns-then-suits c).After-suits) ∙ c.if-suits.true))

pub returns-else-suits : goal.returns-else-suits
unfolding tick_on_of
returns-else-suits c = rw (c.whole.ensures, ← suited (goal.at.returns-else-suits c).After-suits, c.if-suits.false) refl
