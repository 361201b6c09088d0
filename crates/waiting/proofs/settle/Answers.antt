use mathlib.Core.Path.{◌≡◌, refl}
use mathlib.Core.Bool.{true}
use Prim.Native.Nat.{◌+◌, ◌<◌}
use native.Mathlib.Omega.{arith}
use borrow.Author.Tests.{not-false}
use Rattle.vset.specs.Members.{is_in}
use Rattle.vset.proofs.Words.{itself}
use Rattle.vset.proofs.Taking.{some_in, lowest_in, none_in}
use Rattle.starts.specs.Starts.{start_in}
use Rattle.starts.proofs.Together.{start-in, start-later}
use Rattle.waiting.specs.Waiting.{edges_by, Told}
use Rattle.waiting.proofs.Settling.{start-at, enough, told-one, fewer-count, all_told}
use Rattle.waiting.proofs.settle.Goals as goal
use Rattle.waiting.proofs.settle.Goals.{After-next-next, After-rest-1}

pub loop-busy-init : goal.loop-busy-init
loop-busy-init c =
    let a = c.args in
    (c.requires.unsettled, (itself a.behind (omega arith) (omega arith) (is_in a.behind) (λ k. refl), itself a.done (omega arith) (omega arith) (is_in a.done) (λ k. refl)))

pub next-next-requires : goal.next-next-requires
next-next-requires c = some_in (is_in c.loop-busy.rest) c.is_empty.result c.is_empty.ensures c.loop-busy-test.true-raw

-- somebody has something left to tell, so the lowest has
found : (c : After-next-next) → (c.next-next.result.v < 128) × (is_in c.loop-busy.rest c.next-next.result.v ≡ true)
found c = let l = c.loop-busy in lowest_in (is_in l.rest) c.next-next.result.v c.is_empty.result c.next-next.ensures.v_value c.is_empty.ensures c.loop-busy-test.true-raw

pub offset_bounds-starts-u : goal.offset_bounds-starts-u
offset_bounds-starts-u c = omega (arith, (found (goal.at.offset_bounds-starts-u c).After-next-next).0)

pub bounds-starts-u : goal.bounds-starts-u
bounds-starts-u c = omega (arith, (found (goal.at.bounds-starts-u c).After-next-next).0)

pub overflow_add-u : goal.overflow_add-u
overflow_add-u c = omega (arith, (found (goal.at.overflow_add-u c).After-next-next).0)

pub offset_bounds-starts-u-in-loop-busy : goal.offset_bounds-starts-u-in-loop-busy
offset_bounds-starts-u-in-loop-busy c = omega (arith, (found (goal.at.offset_bounds-starts-u-in-loop-busy c).After-next-next).0)

pub bounds-starts-u-in-loop-busy : goal.bounds-starts-u-in-loop-busy
bounds-starts-u-in-loop-busy c = omega (arith, (found (goal.at.bounds-starts-u-in-loop-busy c).After-next-next).0)

pub tell-news-requires : goal.tell-news-requires
tell-news-requires c =
    let l = c.loop-busy in
    let u = c.next-next.result.v in
    let h = found (goal.at.tell-news-requires c).After-next-next in
    let L = c.requires.layout in
    let U = l.invariant.0 in
    let a = start-at c.args.edge.now c.args.starts.now L u (omega (arith, h.0)) in
    let b = start-at c.args.edge.now c.args.starts.now L (u + 1) (omega (arith, h.0)) in
    rw (a, b) record { waiting_len = U.long; start_le_end = (start-later c.args.edge.now (edges_by c.args.starts.now) u, omega (arith, start-in c.args.edge.now (edges_by c.args.starts.now) (u + 1), L.few)); by_index = (λ i k. (L.known i (omega (arith, k, start-in c.args.edge.now (edges_by c.args.starts.now) (u + 1)))).1); by_index_2 = enough c.args.edge.now c.args.starts.now L l.waiting (is_in c.args.busy) (is_in l.hind) (is_in l.rest) U u h.1; members = record { low = l.invariant.1.0.low; high = l.invariant.1.0.high; are = U.stand } }

-- its successors are told along the edges from its start up to the next
told : (c : After-rest-1) → Told c.args.edge.now (start_in c.args.edge.now (edges_by c.args.starts.now) c.next-next.result.v) (start_in c.args.edge.now (edges_by c.args.starts.now) (c.next-next.result.v + 1)) c.loop-busy.waiting (is_in c.args.busy) (record { behind = c.loop-busy.hind; done = c.next-next.result.rest }) c.tell-news.new.waiting c.tell-news.result
told c =
    let h = found (goal.at.After-rest-1 c).After-next-next in
    let a = start-at c.args.edge.now c.args.starts.now c.requires.layout c.next-next.result.v (omega (arith, h.0)) in
    let b = start-at c.args.edge.now c.args.starts.now c.requires.layout (c.next-next.result.v + 1) (omega (arith, h.0)) in
    rw (a, b) at c.tell-news.ensures

pub loop-busy-smaller : goal.loop-busy-smaller
loop-busy-smaller c =
    let l = c.loop-busy in
    fewer-count c.args.edge.now c.args.starts.now c.requires.layout l.waiting (is_in c.args.busy) (is_in l.hind) (is_in l.rest) l.invariant.0 c.next-next.result.v (found (goal.at.loop-busy-smaller c).After-next-next).1 c.tell-news.new.waiting _ c.tell-news.result c.next-next.ensures.members.are (told c) (found (goal.at.loop-busy-smaller c).After-next-next).0

pub loop-busy-preserved : goal.loop-busy-preserved
loop-busy-preserved c =
    let l = c.loop-busy in
    let t = c.tell-news in (
      told-one c.args.edge.now c.args.starts.now c.requires.layout l.waiting (is_in c.args.busy) (is_in l.hind) (is_in l.rest) l.invariant.0 c.next-next.result.v (found (goal.at.loop-busy-preserved c).After-next-next).1 t.new.waiting _ t.result c.next-next.ensures.members.are (told c),
      (itself t.result.behind t.ensures.behind.low t.ensures.behind.high (is_in t.result.behind) (λ k. refl), itself t.result.done t.ensures.done.low t.ensures.done.high (is_in t.result.done) (λ k. refl)),
    )

pub returns : goal.returns
returns c =
    let l = c.loop-busy in
    all_told c.args.edge.now c.args.starts.now c.requires.layout l.waiting (is_in c.args.busy) l.hind (is_in l.rest) l.invariant.0 l.invariant.1.0
    (none_in l.rest (is_in l.rest) l.invariant.1.1 c.is_empty.result c.is_empty.ensures (not-false c.is_empty.result c.loop-busy-test.false-raw))
