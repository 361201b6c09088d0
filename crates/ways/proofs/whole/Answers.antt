use mathlib.Core.Path.{◌≡◌, ap, ◌∙◌}
use Prim.Native.Nat.{ℕ, ◌+◌, min}
use native.Mathlib.Omega.{arith}
use lib.Dec.{eqb}
use lib.ListN.{get_or}
use Rattle.model.specs.Places.{sum}
use Rattle.ways.specs.Counts.{from_source_of}
use Rattle.ways.proofs.Counting.{cut-more, pick_small}
use Rattle.ways.proofs.whole.Goals as goal

pub loop-v-init : goal.loop-v-init
unfolding sum
loop-v-init c = omega arith

pub overflow_add-total : goal.overflow_add-total
overflow_add-total c =
    let l = c.loop-v in
    omega (arith, l.invariant, c.from_source.ensures, c.requires.by_index l.v, pick_small (eqb (get_or c.args.led.now l.v 0) 0) (get_or c.args.ways.now l.v 0))

pub loop-v-preserved : goal.loop-v-preserved
loop-v-preserved c =
    let l = c.loop-v in
    let a = c.args in cut-more (from_source_of a.led.now a.ways.now) l.v l.total c.min-total.result l.invariant
    (c.min-total.ensures ∙ ap (λ (x : ℕ). min (l.total + x) 4097) c.from_source.ensures)

pub returns : goal.returns
returns c =
    let l = c.loop-v in
    let e : l.v ≡ c.args.n = omega arith in
    rw e at l.invariant
