use mathlib.Core.Path.{◌≡◌, refl, ap, ◌∙◌}
use mathlib.Core.Bool.{Bool}
use Prim.Native.Nat.{◌<◌}
use native.Mathlib.Omega.{arith}
use lib.ListN.{get_or}
use Rattle.model.specs.Places.{pick, largest}
use Rattle.model.specs.Bounds.{used, most_cores_of}
use Rattle.weights.proofs.Used.{most-more}
use Rattle.weights.proofs.volume.most_cores.Invariants.{counts}
use Rattle.weights.proofs.volume.most_cores.Goals as goal
use Rattle.weights.proofs.volume.most_cores.Goals.{In-loop-s}

pub used_kinds-used-requires : goal.used_kinds-used-requires
used_kinds-used-requires c =
    let S = c.requires.1 in
    record { n_bound = S.few_vertices; by_index = λ v l. omega (arith, S.kind_known v l, S.few_kinds) }

pub loop-s-init : goal.loop-s-init
unfolding largest
loop-s-init c = refl

few : (c : In-loop-s) → c.loop-s.s < 10
few c = omega (arith, c.requires.1.few_kinds)

pub bounds-used-s : goal.bounds-used-s
bounds-used-s c = few c

pub bounds-cores-s : goal.bounds-cores-s
bounds-cores-s c = few (goal.at.bounds-cores-s c).In-loop-s

pub loop-s-preserved : goal.loop-s-preserved
loop-s-preserved c =
    let l = c.loop-s in
    let a = c.args in
    let marks = c.used_kinds-used.ensures l.s (few (goal.at.loop-s-preserved c).In-loop-s) in
    let is = c.counted.ensures ∙ ap (λ (b : Bool). pick b (get_or a.cores.now l.s 0) 0) marks in
    most-more (counts a.kind.now a.cores.now a.n) l.s c.max-most.ensures l.invariant is

pub returns : goal.returns
unfolding most_cores_of used
returns c w =
    let e : c.loop-s.s ≡ c.args.kinds = omega arith in
    c.loop-s.invariant ∙ ap (largest _) e
