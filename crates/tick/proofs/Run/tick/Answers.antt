use native.Mathlib.Omega.{arith}
use mathlib.Core.Path.{◌≡◌, refl, sym, ap, ap₂, ◌∙◌}
use mathlib.Core.List.{List}
use mathlib.Core.Bool.{true}
use Prim.Native.Nat.{ℕ, ◌≤◌}
use lib.ListN.{length}
use Rattle.graph.specs.declared.Graph.{Graph}
use Rattle.vset.specs.Members.{is_in}
use Rattle.waiting.specs.Waiting.{Settled}
use Rattle.choice.specs.Choice.{chosen_by}
use Rattle.choice.proofs.ByKind.{few_go_on}
use Rattle.ready.proofs.ByNumbers.{edges-counted, layout}
use Rattle.tick.specs.declared.Run.{Run}
use Rattle.tick.specs.declared.Ticked.{Ticked}
use Rattle.tick.specs.Report.{Moved}
use Rattle.tick.specs.Run.{left_of, state_of, over, ticked_of}
use Rattle.tick.specs.Suits.{suits}
use Rattle.tick.specs.Lists.{ListsOf}
use Rattle.tick.proofs.Suiting.{suits-sound, suits-settled, nothing-past}
use Rattle.tick.proofs.Ticking.{over-is, on-runs, unsettled, moves}
use borrow.Author.Rules.{rules}
use Rattle.tick.proofs.Run.tick.Goals as goal
use Rattle.tick.proofs.Run.tick.Goals.{After-chosen-on, After-held-behind, After-is_empty, Start}

-- the lists that are lent are those of the graph g, and the record suits it
record Suited (s : Start) (g : Graph) : Type 0 where
  lent : ListsOf g s.args.kinds s.args.cores.now s.args.words.now s.args.edge.now s.args.starts.now
  suited : suits g s.args.self ≡ true

some : (s : Start) → Suited s s.requires.0
some s = record { lent = s.requires.1; suited = s.requires.2 }

long_left : (s : Start) → length s.args.self.left ≡ 128
long_left s = search rules

long-waiting : (s : Start) → length s.args.self.waiting ≡ 128
long-waiting s = search rules

-- places from N on are zero
past_by : (s : Start) (g : Graph) → Suited s g → (v : ℕ) → g.n ≤ v → left_of s.args.self v ≡ 0
past_by s g S = nothing-past g s.args.self S.lent.accepted S.suited (long_left s)

-- the run is finished where the set of those with ticks left is empty
over_by : (c : After-is_empty) (g : Graph) → Suited (goal.at.After-is_empty c).Start g → over g c.args.self ≡ c.is_empty.result
over_by c g S =
    over-is g S.lent.accepted c.args.self (past_by (goal.at.After-is_empty c).Start g S) (is_in c.busy-busy.result) c.busy-busy.ensures.are ∙ sym c.is_empty.ensures

-- the numbers tell who stands behind another
settled-by : (c : After-held-behind) (g : Graph) → Suited (goal.at.After-held-behind c).Start g → Settled g.edge g.edges c.args.self.waiting (is_in c.busy-busy.result) c.held-behind.result
settled-by c g S =
    suits-settled g c.args.self S.lent.accepted (is_in c.busy-busy.result) c.busy-busy.ensures.are c.held-behind.result c.held-behind.ensures (long-waiting (goal.at.After-held-behind c).Start) S.suited

-- what is chosen, by the graph's own kinds and cores
on-by : (c : After-chosen-on) (g : Graph) → Suited (goal.at.After-chosen-on c).Start g → (v : ℕ) → is_in c.chosen-on.result v ≡ chosen_by g.kinds g.cores c.args.words.now (is_in c.minus-able.result) (is_in c.args.self.ran) v
on-by c g S v =
    c.chosen-on.ensures.are v ∙ ap₂ (λ (k : ℕ) (l : List ℕ). chosen_by k l c.args.words.now (is_in c.minus-able.result) (is_in c.args.self.ran) v) S.lent.kinds_are S.lent.cores_are

pub returns-then-is_empty : goal.returns-then-is_empty
unfolding ticked_of
returns-then-is_empty c g L ok = rw (over_by (goal.at.returns-then-is_empty c).After-is_empty g (record { lent = L; suited = ok }) ∙ c.if-is_empty.true) refl

pub chosen-on-requires : goal.chosen-on-requires
unfolding state_of
chosen-on-requires c =
    let g = c.requires.0 in
    let L = c.requires.1 in
    let A = L.accepted in
    rw (L.kinds_are, L.cores_are)
    record { kinds_bound = A.few_kinds; by_index = few_go_on g A c.args.words.now L.words_are (is_in c.minus-able.result) (state_of c.args.self) (suits-sound g c.args.self A c.requires.2).before.few_marked }

pub lower-spent-requires : goal.lower-spent-requires
unfolding left_of
lower-spent-requires c =
    let g = c.requires.0 in
    let S = some (goal.at.lower-spent-requires c).Start in record {
      left_len = long_left (goal.at.lower-spent-requires c).Start;
      by_index = λ v t. (on-runs g S.lent.accepted c.args.self (past_by (goal.at.lower-spent-requires c).Start g S) (is_in c.busy-busy.result) c.busy-busy.ensures.are c.args.self.waiting c.held-behind.result (settled-by (goal.at.lower-spent-requires c).After-held-behind g S)
          (is_in c.minus-able.result) c.minus-able.ensures.are c.args.words.now S.lent.words_are (is_in c.chosen-on.result) (on-by (goal.at.lower-spent-requires c).After-chosen-on g S) v t).1;
    }

pub settle-self-requires : goal.settle-self-requires
settle-self-requires c =
    let g = c.requires.0 in
    let S = some (goal.at.settle-self-requires c).Start in
    let A = S.lent.accepted in
    rw (S.lent.edges_are, S.lent.starts_are, edges-counted g A) record {
      layout = layout g A;
      unsettled = unsettled g A c.args.self (past_by (goal.at.settle-self-requires c).Start g S) (is_in c.busy-busy.result) c.busy-busy.ensures.are c.args.self.waiting c.held-behind.result (settled-by (goal.at.settle-self-requires c).After-held-behind g S)
          (is_in c.minus-able.result) c.minus-able.ensures.are c.args.words.now S.lent.words_are (is_in c.chosen-on.result) (on-by (goal.at.settle-self-requires c).After-chosen-on g S)
          1 c.lower-spent.new.left (is_in c.lower-spent.result.over) (is_in c.minus-rest.result) c.lower-spent.ensures.left_after c.lower-spent.ensures.members.are c.minus-rest.ensures.are;
    }

pub overflow_add-self : goal.overflow_add-self
overflow_add-self c =
    omega (arith, (suits-sound c.requires.0 c.args.self c.requires.1.accepted c.requires.2).before.in_time)

pub returns : goal.returns
unfolding ticked_of
returns c g L ok =
    let S : Suited (goal.at.returns c).Start g = record { lent = L; suited = ok } in
    let A = L.accepted in
    rw (over_by (goal.at.returns c).After-is_empty g S ∙ c.if-is_empty.false)
    (ap {B = Ticked} (λ (x : Run). record { report = Moved; run = x })
    (moves g A c.args.self (past_by (goal.at.returns c).Start g S) (is_in c.busy-busy.result) c.busy-busy.ensures.are c.args.self.waiting c.held-behind.result (settled-by (goal.at.returns c).After-held-behind g S)
    (is_in c.minus-able.result) c.minus-able.ensures.are c.args.words.now L.words_are (is_in c.chosen-on.result) (on-by (goal.at.returns c).After-chosen-on g S)
    1 c.lower-spent.new.left (is_in c.lower-spent.result.over) (is_in c.minus-rest.result) c.lower-spent.ensures.left_after c.lower-spent.ensures.members.are c.minus-rest.ensures.are
    (suits-sound g c.args.self A ok).before.agrees c.minus-self.result c.settle-self.result c.settle-self.new.waiting c.minus-self.ensures
    (rw (L.edges_are, L.starts_are, edges-counted g A) at c.settle-self.ensures)))
