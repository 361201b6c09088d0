use mathlib.Core.Path.{◌≡◌, subst}
use Prim.Native.Nat.{ℕ, ◌+◌, ◌<◌}
use native.Mathlib.Omega.{arith}
use lib.ListN.{get_or}
use Rattle.starts.specs.Starts.{start_in}
use Rattle.starts.proofs.Together.{start-in, start-later}
use Rattle.waiting.specs.Waiting.{edges_by}
use Rattle.waiting.proofs.Rows.{start-listed}
use Rattle.cycle.specs.Line.{everyone, Line}
use Rattle.cycle.proofs.Line.{line_known, line-enough, line-goes-on}
use Rattle.cycle.proofs.take_up.Goals as goal
use Rattle.cycle.proofs.take_up.Goals.{In-loop-told}

pub loop-told-init : goal.loop-told-init
loop-told-init c = c.requires.line

-- those in the line are no more than there are
within : (c : In-loop-told) → c.loop-told.told < everyone c.args.waiting.now c.args.first
within c = omega (arith, c.loop-told-test.true, c.loop-told.invariant.rest)

known : (c : In-loop-told) → get_or c.loop-told.order c.loop-told.told 0 < 128
known c =
    let R = c.requires.rows in
    omega (arith, line_known R c.loop-told.invariant c.loop-told.told c.loop-told-test.true, R.few_vertices)

pub bounds-order-told : goal.bounds-order-told
bounds-order-told c = omega (arith, within (goal.at.bounds-order-told c).In-loop-told, c.requires.rows.few_vertices)

pub overflow_cast-u : goal.overflow_cast-u
overflow_cast-u c = omega (arith, known (goal.at.overflow_cast-u c).In-loop-told)

pub offset_bounds-starts-u : goal.offset_bounds-starts-u
offset_bounds-starts-u c = omega (arith, known (goal.at.offset_bounds-starts-u c).In-loop-told)

pub bounds-starts-u : goal.bounds-starts-u
bounds-starts-u c = omega (arith, known (goal.at.bounds-starts-u c).In-loop-told)

pub overflow_add-u : goal.overflow_add-u
overflow_add-u c = omega (arith, known (goal.at.overflow_add-u c).In-loop-told)

pub offset_bounds-starts-u-in-loop-told : goal.offset_bounds-starts-u-in-loop-told
offset_bounds-starts-u-in-loop-told c = omega (arith, known (goal.at.offset_bounds-starts-u-in-loop-told c).In-loop-told)

pub bounds-starts-u-in-loop-told : goal.bounds-starts-u-in-loop-told
bounds-starts-u-in-loop-told c = omega (arith, known (goal.at.bounds-starts-u-in-loop-told c).In-loop-told)

-- its edges begin at its start and end where the next one's begin
starts-at : (c : In-loop-told) (u : ℕ) → u < 129 → get_or c.args.starts.now u 0 ≡ start_in c.args.edge.now (edges_by c.args.starts.now) u
starts-at c u h = let a = c.args in start-listed a.edge.now (edges_by a.starts.now) a.starts.now c.requires.rows.begin u h

pub tell-found-requires : goal.tell-found-requires
tell-found-requires c =
    let l = c.loop-told in
    let R = c.requires.rows in
    let e = c.args.edge.now in
    let m = edges_by c.args.starts.now in
    let u = get_or l.order l.told 0 in
    let h = known (goal.at.tell-found-requires c).In-loop-told in
    rw (starts-at (goal.at.tell-found-requires c).In-loop-told u (omega (arith, h)), starts-at (goal.at.tell-found-requires c).In-loop-told (u + 1) (omega (arith, h))) record { waiting_len = (l.invariant.long, l.invariant.size); start_le_end = (start-later e m u, omega (arith, start-in e m (u + 1), R.few_edges)); by_index = (λ i k. omega (arith, R.to_known i (omega (arith, k, start-in e m (u + 1))), R.few_vertices)); by_index_2 = line-enough R l.invariant c.loop-told-test.true; found_bound = omega (arith, l.invariant.rest, R.few_vertices) }

pub overflow_add-told : goal.overflow_add-told
overflow_add-told c = omega (arith, within (goal.at.overflow_add-told c).In-loop-told, c.requires.rows.few_vertices)

pub loop-told-smaller : goal.loop-told-smaller
loop-told-smaller c = omega (arith, within (goal.at.loop-told-smaller c).In-loop-told)

pub loop-told-preserved : goal.loop-told-preserved
loop-told-preserved c =
    let l = c.loop-told in
    let u = get_or l.order l.told 0 in
    let h = known (goal.at.loop-told-preserved c).In-loop-told in
    line-goes-on c.requires.rows l.invariant c.loop-told-test.true (rw (starts-at (goal.at.loop-told-preserved c).In-loop-told u (omega (arith, h)), starts-at (goal.at.loop-told-preserved c).In-loop-told (u + 1) (omega (arith, h))) at c.tell-found.ensures)

pub returns : goal.returns
returns c =
    let l = c.loop-told in
    let a = c.args in
    let e : l.told ≡ l.found = omega (arith, l.invariant.ahead, c.loop-told-test.false) in
    subst (λ (x : ℕ). Line a.edge.now (edges_by a.starts.now) (everyone a.waiting.now a.first) l.waiting l.order x l.found) e l.invariant
