use mathlib.Core.Path.{◌≡◌, refl, ap, ap₂, sym, ◌∙◌}
use Prim.Native.Nat.{ℕ, ◌+◌, ◌*◌, ◌/◌, ◌≤◌}
use native.Mathlib.Nat.{div-le_self}
use native.Mathlib.Numerals.{add-one}
use native.Mathlib.Omega.{arith}
use borrow.Author.Rules.{rules}
use lib.ListN.{get_or}
use Rattle.model.specs.Places.{sum}
use Rattle.model.specs.Bounds.{PARTS, vol, volume}
use Rattle.model.proofs.Sums.{sum_more}
use Rattle.weights.specs.Weight.{stages}
use Rattle.weights.proofs.Volumes.{vol-small}
use Rattle.weights.proofs.volume.volume.Goals as goal
use Rattle.weights.proofs.volume.volume.Goals.{After-over-share, In-loop-s}

pub loop-s-init : goal.loop-s-init
unfolding sum
loop-s-init c = (search rules, refl)

pub offset_bounds-ticks-s : goal.offset_bounds-ticks-s
offset_bounds-ticks-s c = omega (arith, c.requires.few_kinds)

pub bounds-ticks-s : goal.bounds-ticks-s
bounds-ticks-s c = omega (arith, c.requires.few_kinds)

-- the ticks of kind s, and that they are few
ticks-of : (c : In-loop-s)
    → get_or c.vols-ticks.result c.loop-s.s 0 ≡ vol (stages c.args.kind.now c.args.wcet.now c.args.cores.now c.args.kinds c.args.n) c.loop-s.s
ticks-of c = c.vols-ticks.ensures c.loop-s.s (omega (arith, c.requires.few_kinds))

few : (c : In-loop-s) → get_or c.vols-ticks.result c.loop-s.s 0 ≤ 128000000
few c =
    let a = c.args in
    let S = c.requires in
    omega (arith, ticks-of c, vol-small a.kind.now a.wcet.now a.cores.now a.kinds a.n S a.n c.loop-s.s (omega arith), S.few_vertices)

pub of_ticks-requires : goal.of_ticks-requires
of_ticks-requires c = omega (arith, few c)

pub bounds-cores-s : goal.bounds-cores-s
bounds-cores-s c = omega (arith, c.requires.few_kinds)

pub over-share-requires : goal.over-share-requires
over-share-requires c = c.requires.some_core c.loop-s.s (omega arith)

-- what a turn adds
is : (c : After-over-share)
    → c.over-share.result.0 ≡ get_or c.vols-ticks.result c.loop-s.s 0 * PARTS / get_or c.args.cores.now c.loop-s.s 0
is c =
    let k = get_or c.args.cores.now c.loop-s.s 0 in
    c.over-share.ensures ∙ ap (λ (x : ℕ). x / k) c.of_ticks.ensures

small : (c : After-over-share) → c.over-share.result.0 ≤ 92252160000000
small c = omega (arith, c.over-share.ensures, c.of_ticks.ensures, few (goal.at.After-over-share c).In-loop-s, div-le_self c.of_ticks.result.0 (get_or c.args.cores.now c.loop-s.s 0))

pub plus-total-requires : goal.plus-total-requires
plus-total-requires c = omega (arith, small c, c.requires.few_kinds)

pub loop-s-preserved : goal.loop-s-preserved
loop-s-preserved c =
    let l = c.loop-s in
    let a = c.args in
    let f : ℕ → ℕ = λ k. vol (stages a.kind.now a.wcet.now a.cores.now a.kinds a.n) k * PARTS / get_or a.cores.now k 0 in
    let t = ap (λ (x : ℕ). x * PARTS / get_or a.cores.now l.s 0) (ticks-of (goal.at.loop-s-preserved c).In-loop-s) in
    (omega (arith, small (goal.at.loop-s-preserved c).After-over-share, c.plus-total.ensures), c.plus-total.ensures ∙ ap₂ (λ (x y : ℕ). x + y) l.invariant.1 (is (goal.at.loop-s-preserved c).After-over-share ∙ t) ∙ sym (sum_more f l.s) ∙ ap (sum f) (sym (add-one l.s)))

pub returns : goal.returns
unfolding volume
returns c =
    let e : c.loop-s.s ≡ c.args.kinds = omega arith in
    record { result_value = c.loop-s.invariant.1 ∙ ap (sum _) e; result_bound = omega (arith, c.requires.few_kinds) }
