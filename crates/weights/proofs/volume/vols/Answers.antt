use mathlib.Core.Path.{◌≡◌, refl}
use Prim.Native.Nat.{◌≤◌, ◌<◌}
use native.Mathlib.Omega.{arith}
use lib.ListN.{get_or}
use Rattle.weights.proofs.Volumes.{added_none, added_more, vol-small}
use Rattle.weights.proofs.volume.vols.Goals as goal
use Rattle.weights.proofs.volume.vols.Goals.{In-loop-v}

pub loop-v-init : goal.loop-v-init
loop-v-init c = added_none _ _ _ _

-- the kind of v, its WCET, and what there is of that kind so far
kind-of : (c : In-loop-v) → get_or c.args.kind.now c.loop-v.v 0 < 10
kind-of c =
    let S = c.requires in
    omega (arith, S.kind_known c.loop-v.v (omega arith), S.few_kinds)

short : (c : In-loop-v) → get_or c.args.wcet.now c.loop-v.v 0 ≤ 1000000
short c = c.requires.short c.loop-v.v (omega arith)

so_far : (c : In-loop-v)
    → get_or c.loop-v.sums (get_or c.args.kind.now c.loop-v.v 0) 0 ≤ 128000000
so_far c =
    let a = c.args in
    let l = c.loop-v in
    let s = get_or a.kind.now l.v 0 in
    omega (arith, l.invariant.sums s (kind-of c), vol-small a.kind.now a.wcet.now a.cores.now a.kinds a.n c.requires l.v s (omega arith), c.requires.few_vertices)

pub overflow_cast-s : goal.overflow_cast-s
overflow_cast-s c = omega (arith, kind-of (goal.at.overflow_cast-s c).In-loop-v)

pub offset_bounds-sums-s : goal.offset_bounds-sums-s
offset_bounds-sums-s c = omega (arith, kind-of (goal.at.offset_bounds-sums-s c).In-loop-v)

pub bounds-sums-s : goal.bounds-sums-s
bounds-sums-s c = omega (arith, kind-of (goal.at.bounds-sums-s c).In-loop-v)

pub overflow_cast-sums : goal.overflow_cast-sums
overflow_cast-sums c = omega (arith, short (goal.at.overflow_cast-sums c).In-loop-v)

pub overflow_add-sums : goal.overflow_add-sums
overflow_add-sums c = omega (arith, so_far (goal.at.overflow_add-sums c).In-loop-v, short (goal.at.overflow_add-sums c).In-loop-v)

pub offset_bounds-sums-s-in-loop-v : goal.offset_bounds-sums-s-in-loop-v
offset_bounds-sums-s-in-loop-v c = omega (arith, kind-of (goal.at.offset_bounds-sums-s-in-loop-v c).In-loop-v)

pub bounds-sums-s-in-loop-v : goal.bounds-sums-s-in-loop-v
bounds-sums-s-in-loop-v c = omega (arith, kind-of (goal.at.bounds-sums-s-in-loop-v c).In-loop-v)

pub loop-v-preserved : goal.loop-v-preserved
loop-v-preserved c =
    let l = c.loop-v in
    let a = c.args in
    added_more a.kind.now a.wcet.now a.cores.now a.kinds l.sums l.v (get_or a.kind.now l.v 0) _ (kind-of (goal.at.loop-v-preserved c).In-loop-v) refl refl l.invariant

pub returns : goal.returns
returns c =
    let e : c.loop-v.v ≡ c.args.n = omega arith in
    (rw e at c.loop-v.invariant).sums
