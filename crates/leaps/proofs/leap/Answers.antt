use mathlib.Core.Path.{◌≡◌, ap₂, ◌∙◌}
use mathlib.Core.List.{List}
use mathlib.Core.Bool.{Bool, not, ◌&&◌}
use Prim.Native.Nat.{ℕ, ◌+◌, ◌≤◌}
use native.Mathlib.Omega.{arith}
use Rattle.graph.specs.declared.Graph.{Graph}
use Rattle.vset.specs.Members.{is_in}
use Rattle.tick.specs.Run.{MOST, left_of, state_of}
use Rattle.choice.specs.Choice.{chosen_by}
use Rattle.waiting.specs.Waiting.{Settled}
use Rattle.choice.proofs.ByKind.{few_go_on}
use Rattle.ready.proofs.ByNumbers.{edges-counted, layout}
use Rattle.tick.specs.Lists.{ListsOf}
use Rattle.leaps.specs.Leaps.{Work, work_of}
use Rattle.leaps.proofs.OneLeap.{within, at_most, untold, leapt}
use Rattle.leaps.proofs.leap.Goals as goal
use Rattle.leaps.proofs.leap.Goals.{After-chosen-on, After-min-d, After-settle-behind, Start}

-- the run before the leap, of the graph g
abbrev old : Graph → Start → Work
old g s = work_of g s.args.m s.args.left.now s.args.waiting.now s.args.finishes.now

-- the graph whose lists are lent
abbrev Lent : Graph → Start → Type 0
Lent g s = ListsOf g s.args.kinds s.args.cores.now s.args.words.now s.args.edge.now s.args.starts.now

-- what is chosen, by the graph's own kinds and cores
on-by : (c : After-chosen-on) (g : Graph) → Lent g (goal.at.After-chosen-on c).Start → (v : ℕ)
    → is_in c.chosen-on.result v ≡ chosen_by g.kinds g.cores c.args.words.now (is_in c.minus-able.result) (is_in c.args.m.ran) v
on-by c g L v =
    c.chosen-on.ensures.are v ∙ ap₂ (λ (k : ℕ) (l : List ℕ). chosen_by k l c.args.words.now (is_in c.minus-able.result) (is_in c.args.m.ran) v) L.kinds_are L.cores_are

-- the leap ends in time
in_time : (c : After-min-d) → c.args.m.instant + c.min-d.result ≤ MOST
unfolding left_of
in_time c =
    let g = c.requires.lists_of.0 in
    let L = c.requires.lists_of.1 in
    let S = c.requires.lists_of.2 in
    at_most g L.accepted (old g (goal.at.After-min-d c).Start) S c.requires.nonzero (is_in c.minus-able.result) (is_in c.chosen-on.result) c.minus-able.ensures.are c.args.words.now L.words_are (on-by (goal.at.After-min-d c).After-chosen-on g L)
    (is_in c.minus.result) c.minus.ensures.are c.least-fewest.result c.least-fewest.ensures c.args.room c.min-d.result c.requires.room_nonzero c.min-d.ensures

-- the numbers after it, by the graph's own edges
settled-by : (c : After-settle-behind) (g : Graph) → Lent g (goal.at.After-settle-behind c).Start → Settled g.edge g.edges c.settle-behind.new.waiting (is_in c.minus-busy.result) c.settle-behind.result
settled-by c g L = rw (L.edges_are, L.starts_are, edges-counted g L.accepted) at c.settle-behind.ensures

pub chosen-on-requires : goal.chosen-on-requires
unfolding state_of
chosen-on-requires c =
    let g = c.requires.lists_of.0 in
    let L = c.requires.lists_of.1 in
    let S = c.requires.lists_of.2 in
    rw (L.kinds_are, L.cores_are) record { kinds_bound = L.accepted.few_kinds; by_index = few_go_on g L.accepted c.args.words.now L.words_are (is_in c.minus-able.result) (state_of (old g (goal.at.chosen-on-requires c).Start).run) S.fair }

pub lower-spent-requires : goal.lower-spent-requires
unfolding left_of
lower-spent-requires c =
    let g = c.requires.lists_of.0 in
    let L = c.requires.lists_of.1 in
    let S = c.requires.lists_of.2 in record {
      left_len = S.long_left;
      by_index = λ v t. (within g L.accepted (old g (goal.at.lower-spent-requires c).Start) S c.requires.nonzero (is_in c.minus-able.result) (is_in c.chosen-on.result) c.minus-able.ensures.are c.args.words.now L.words_are (on-by (goal.at.lower-spent-requires c).After-chosen-on g L)
          (is_in c.minus.result) c.minus.ensures.are c.least-fewest.result c.least-fewest.ensures c.args.room c.min-d.result c.requires.room_nonzero c.min-d.ensures v t).1;
    }

pub settle-behind-requires : goal.settle-behind-requires
unfolding left_of
settle-behind-requires c =
    let g = c.requires.lists_of.0 in
    let L = c.requires.lists_of.1 in
    let S = c.requires.lists_of.2 in
    rw (L.edges_are, L.starts_are, edges-counted g L.accepted) record {
      layout = layout g L.accepted;
      unsettled = untold g L.accepted (old g (goal.at.settle-behind-requires c).Start) S c.requires.nonzero (is_in c.minus-able.result) (is_in c.chosen-on.result) c.minus-able.ensures.are c.args.words.now L.words_are (on-by (goal.at.settle-behind-requires c).After-chosen-on g L)
          (is_in c.minus.result) c.minus.ensures.are c.least-fewest.result c.least-fewest.ensures c.args.room c.min-d.result c.requires.room_nonzero c.min-d.ensures c.lower-spent.new.left c.lower-spent.result.over c.minus-ran.result c.minus-busy.result c.lower-spent.ensures.left_after c.lower-spent.ensures.members.are c.minus-ran.ensures c.minus-busy.ensures.are;
    }

pub overflow_add-instant : goal.overflow_add-instant
overflow_add-instant c = omega (arith, in_time (goal.at.overflow_add-instant c).After-min-d)

pub overflow_cast-instant-2 : goal.overflow_cast-instant-2
overflow_cast-instant-2 c = omega (arith, in_time (goal.at.overflow_cast-instant-2 c).After-min-d)

pub stamp-requires : goal.stamp-requires
stamp-requires c = c.requires.lists_of.2.long_finishes

pub returns : goal.returns
unfolding left_of
returns c g L S =
    leapt g L.accepted (old g (goal.at.returns c).Start) S c.requires.nonzero (is_in c.minus-able.result) (is_in c.chosen-on.result) c.minus-able.ensures.are c.args.words.now L.words_are (on-by (goal.at.returns c).After-chosen-on g L)
    (is_in c.minus.result) c.minus.ensures.are c.least-fewest.result c.least-fewest.ensures c.args.room c.min-d.result c.requires.room_nonzero c.min-d.ensures c.lower-spent.new.left c.lower-spent.result.over c.minus-ran.result c.minus-busy.result c.lower-spent.ensures.left_after c.lower-spent.ensures.members.are c.minus-ran.ensures c.minus-busy.ensures.are
    c.lower-spent.result.least c.lower-spent.ensures.least_from c.settle-behind.result c.minus-new.result c.settle-behind.new.waiting c.stamp.new.finishes (settled-by (goal.at.returns c).After-settle-behind g L)
    (λ v. c.minus-new.ensures.are v ∙ ap₂ (λ (x y : Bool). x && not y) (c.either.ensures.are v) (c.either-2.ensures.are v))
    c.stamp.ensures
