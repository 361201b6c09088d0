use mathlib.Core.Path.{◌≡◌, refl, ap, ◌∙◌}
use mathlib.Core.List.{List}
use Prim.Native.Nat.{ℕ, ◌*◌, ◌≤◌, ◌<◌}
use native.Mathlib.Nat.{mul-le-mul_left, mul-le-mul_right}
use native.Mathlib.Omega.{arith}
use lib.ListN.{get_or}
use Rattle.model.specs.Places.{padded}
use Rattle.model.specs.Bounds.{PARTS}
use Rattle.model.proofs.Tables.{padded-none, padded-at}
use Rattle.weights.specs.Weight.{rate_of, rates_of, weight_by}
use Rattle.weights.specs.declared.Measure.{Measure}
use Rattle.weights.specs.declared.Measure.TheVariants.{Plain, Scaled}
use Rattle.weights.proofs.Filled.{filled, padded-same}
use Rattle.weights.proofs.weights.Invariants.{weighted}
use Rattle.weights.proofs.weights.Goals as goal
use Rattle.weights.proofs.weights.Goals.{In-loop-v}

pub rates-rate-requires : goal.rates-rate-requires
rates-rate-requires c = record { kinds_bound = c.requires.few_kinds; by_index = c.requires.some_core }

pub loop-v-init : goal.loop-v-init
loop-v-init c = padded-none 128 _

-- the kind of v, its WCET, and the rate
kind-of : (c : In-loop-v) → get_or c.args.kind.now c.loop-v.v 0 < c.args.kinds
kind-of c = c.requires.kind_known c.loop-v.v (omega arith)

short : (c : In-loop-v) → get_or c.args.wcet.now c.loop-v.v 0 ≤ 1000000
short c = c.requires.short c.loop-v.v (omega arith)

rated : (r : List ℕ) (by : Measure) (m : List ℕ) (kinds s : ℕ) → r ≡ padded 10 (rates_of by m) kinds → s < kinds → get_or r s 0 ≡ rate_of by (get_or m s 0)
unfolding rates_of
rated r by m kinds s e l = ap (λ (x : List ℕ). get_or x s 0) e ∙ padded-at 10 (rates_of by m) kinds s l

most : (by : Measure) (m : ℕ) → rate_of by m ≤ PARTS
most Plain m = omega arith
most Scaled m = omega arith

fits : (c : In-loop-v)
    → get_or c.args.wcet.now c.loop-v.v 0 * get_or c.rates-rate.result (get_or c.args.kind.now c.loop-v.v 0) 0 ≤ 720720000000
fits c =
    let a = c.args in
    let s = get_or a.kind.now c.loop-v.v 0 in
    let r = get_or c.rates-rate.result s 0 in
    let h : r ≤ PARTS = omega (arith, rated c.rates-rate.result a.by a.cores.now a.kinds s c.rates-rate.ensures (kind-of c), most a.by (get_or a.cores.now s 0)) in
    omega (arith, mul-le-mul_right r (short c), mul-le-mul_left 1000000 h)

pub overflow_cast-s : goal.overflow_cast-s
overflow_cast-s c = omega (arith, kind-of (goal.at.overflow_cast-s c).In-loop-v, c.requires.few_kinds)

pub overflow_cast-list : goal.overflow_cast-list
overflow_cast-list c = omega (arith, short (goal.at.overflow_cast-list c).In-loop-v)

pub offset_bounds-rate-s : goal.offset_bounds-rate-s
offset_bounds-rate-s c = omega (arith, kind-of (goal.at.offset_bounds-rate-s c).In-loop-v, c.requires.few_kinds)

pub bounds-rate-s : goal.bounds-rate-s
bounds-rate-s c = omega (arith, kind-of (goal.at.bounds-rate-s c).In-loop-v, c.requires.few_kinds)

pub overflow_mul-list : goal.overflow_mul-list
overflow_mul-list c = omega (arith, fits (goal.at.overflow_mul-list c).In-loop-v)

pub loop-v-preserved : goal.loop-v-preserved
unfolding weighted
loop-v-preserved c =
    let l = c.loop-v in
    let a = c.args in
    filled 128 (weighted a.kind.now a.wcet.now c.rates-rate.result) l.v _ _ (omega arith) l.invariant refl

pub returns : goal.returns
unfolding weighted weight_by
returns c =
    let a = c.args in
    let e : c.loop-v.v ≡ a.n = omega arith in
    c.loop-v.invariant
    ∙ ap (padded 128 _) e
    ∙ padded-same 128 _ _ a.n (λ u l. ap (λ (x : ℕ). get_or a.wcet.now u 0 * x) (rated c.rates-rate.result a.by a.cores.now a.kinds (get_or a.kind.now u 0) c.rates-rate.ensures (c.requires.kind_known u l)))
