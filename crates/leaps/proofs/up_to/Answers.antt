use mathlib.Core.Path.{◌≡◌, refl, sym, ◌∙◌}
use mathlib.Core.Logic.{◌⊎◌, inl, inr, ⊎_elim}
use mathlib.Core.Bool.{true, false, not}
use Prim.Native.Nat.{◌≤◌, ◌<◌}
use native.Mathlib.Omega.{arith}
use borrow.Author.Tests.{ltb-true, ltb-false}
use Rattle.model.specs.Places.{any, count}
use Rattle.model.proofs.Bools.{cases, left-of, right_of, not-is-true}
use Rattle.model.proofs.Places.{any_false, count_none, count-some}
use Rattle.graph.specs.declared.Graph.{Graph}
use Rattle.vset.specs.Members.{is_in}
use Rattle.vset.proofs.Taking.{lowest_in}
use Rattle.remains.specs.Remains.{place}
use Rattle.choice.proofs.ByKind.{kinds-known}
use Rattle.tick.specs.Lists.{ListsOf, GraphOf}
use Rattle.leaps.specs.Leaps.{Work, work_of}
use Rattle.leaps.proofs.Stopping.{plays_on, fewer_leaps, stops}
use Rattle.leaps.proofs.up_to.Goals as goal
use Rattle.leaps.proofs.up_to.Goals.{After-leap-m, After-loop-m, At-loop-m, In-loop-m, Start}

-- what is lent is the graph g
abbrev Lent : Graph → Start → Type 0
Lent g s = GraphOf g s.args.kinds s.args.n s.args.cores.now s.args.kind.now s.args.edge.now s.args.starts.now

pub of_kinds-words-requires : goal.of_kinds-words-requires
of_kinds-words-requires c =
    let g = c.requires.graph_of.0 in
    let L = c.requires.graph_of.1 in
    let A = L.edges.accepted in
    rw (L.kind_is, L.edges.n_is) record { n_bound = A.few_vertices; by_index = kinds-known g A }

pub loop-m-init : goal.loop-m-init
loop-m-init c g L T =
    record { kept = rw (← c.requires.finishes_value) at (c.at_start-m.ensures.kept g L.edges.accepted T); by = omega (arith, c.at_start-m.ensures.instant_value) }

-- the run between two leaps
abbrev at : Graph → At-loop-m → Work
at g l = work_of g l.loop-m.m l.loop-m.left l.loop-m.waiting l.loop-m.finishes

-- what a leap goes by
lists : (l : At-loop-m) (g : Graph) → Lent g (goal.at.At-loop-m l).Start → ListsOf g l.args.kinds l.args.cores.now l.of_kinds-words.result l.args.edge.now l.args.starts.now
lists l g L = record {
  accepted = L.edges.accepted;
  kinds_are = L.kinds_are;
  cores_are = L.cores_are;
  words_are = rw (L.kind_is, L.edges.n_is) at l.of_kinds-words.ensures;
  edges_are = L.edges.edges_are;
  starts_are = L.edges.starts_are;
}

-- in a turn somebody has ticks left, and there is room for a tick
some-busy : (c : In-loop-m) → 0 < count (is_in c.loop-m.m.busy) 128
some-busy c =
    let busy = is_in c.loop-m.m.busy in
    let h = lowest_in busy _ c.is_empty.result refl c.is_empty.ensures (left-of (not c.is_empty.result) _ c.loop-m-test.true) in
    count-some busy 128 _ h.0 h.1

in-room : (c : In-loop-m) → c.loop-m.m.instant < c.args.d
in-room c =
    ltb-true c.loop-m.m.instant _ (right_of (not c.is_empty.result) _ c.loop-m-test.true)

pub overflow_cast-room : goal.overflow_cast-room
overflow_cast-room c = omega (arith, in-room (goal.at.overflow_cast-room c).In-loop-m)

pub overflow_sub-room : goal.overflow_sub-room
overflow_sub-room c = omega (arith, in-room (goal.at.overflow_sub-room c).In-loop-m)

pub leap-m-requires : goal.leap-m-requires
leap-m-requires c =
    let g = c.requires.graph_of.0 in
    let L = c.requires.graph_of.1 in
    record { lists_of = (g, lists (goal.at.leap-m-requires c).At-loop-m g L, (c.loop-m.invariant g L c.requires.graph_of.2).kept.sound); nonzero = some-busy (goal.at.leap-m-requires c).In-loop-m; room_nonzero = omega (arith, in-room (goal.at.leap-m-requires c).In-loop-m) }

-- the run after the leap
abbrev next : Graph → After-leap-m → Work
next g c = let x = c.leap-m in work_of g x.result x.new.left x.new.waiting x.new.finishes

pub loop-m-smaller : goal.loop-m-smaller
loop-m-smaller c =
    let g = c.requires.graph_of.0 in
    let L = c.requires.graph_of.1 in
    let P = c.loop-m.invariant g L c.requires.graph_of.2 in
    fewer_leaps g L.edges.accepted (place c.args.left.now) c.args.d (at g (goal.at.loop-m-smaller c).At-loop-m) (next g c) P (some-busy (goal.at.loop-m-smaller c).In-loop-m) (in-room (goal.at.loop-m-smaller c).In-loop-m) (c.leap-m.ensures g (lists (goal.at.loop-m-smaller c).At-loop-m g L) P.kept.sound)

pub loop-m-preserved : goal.loop-m-preserved
loop-m-preserved c g L T =
    let P = c.loop-m.invariant g L T in
    plays_on g L.edges.accepted (place c.args.left.now) c.args.d (at g (goal.at.loop-m-preserved c).At-loop-m) (next g c) P (some-busy (goal.at.loop-m-preserved c).In-loop-m) (in-room (goal.at.loop-m-preserved c).In-loop-m) (c.leap-m.ensures g (lists (goal.at.loop-m-preserved c).At-loop-m g L) P.kept.sound)

-- at the end nobody has ticks left, or there is no room
ended : (c : After-loop-m) → (count (is_in c.loop-m.m.busy) 128 ≡ 0) ⊎ (c.args.d ≤ c.loop-m.m.instant)
ended c =
    let busy = is_in c.loop-m.m.busy in
    ⊎_elim
    (λ (t : c.is_empty.result ≡ true). inl (count_none busy 128 (λ v h. any_false busy 128 v h (not-is-true (any busy 128) (sym c.is_empty.ensures ∙ t)))))
    (λ (f : c.is_empty.result ≡ false). inr (ltb-false c.loop-m.m.instant _ (rw f at c.loop-m-test.false)))
    (cases c.is_empty.result)

pub returns : goal.returns
returns c g L T =
    let w = c.struct_known-1.given.1.0 in
    stops g L.edges.accepted (place c.args.left.now) c.args.d c.loop-m.m c.loop-m.left c.loop-m.waiting c.loop-m.finishes (c.loop-m.invariant g L T) (ended c) (omega (arith, w.0)) (omega (arith, w.1.0))
