use mathlib.Core.Path.{◌≡◌, refl}
use mathlib.Core.Bool.{Bool, true, false}
use Prim.Native.Nat.{ℕ, ◌+◌, ◌-◌, ◌≤◌, ◌<◌}
use native.Mathlib.Omega.{arith}
use lib.Dec.{eqb}
use lib.ListN.{get_or}
use Rattle.model.specs.Places.{pick, sum}
use Rattle.model.proofs.Turns.{sum-next}
use Rattle.ways.specs.Counts.{from_source_of}
use Rattle.ways.proofs.Counting.{pick_small}
use Rattle.visit.proofs.choose.source.Goals as goal
use Rattle.visit.proofs.choose.source.Goals.{After-from_source}

-- what a source adds is small, and what is not one adds nothing
few : (c : After-from_source) → c.from_source.result ≤ 4097
few c =
    let l = c.loop-v in
    omega (arith, c.from_source.ensures, c.requires.by_index l.v, pick_small (eqb (get_or c.args.led.now l.v 0) 0) (get_or c.args.ways.now l.v 0))

picked : (b : Bool) (x base k : ℕ) → base ≤ k → k < base + pick b x 0 → b ≡ true
picked true x base k l h = refl
picked false x base k l h = absurd (omega arith)

pub loop-v-init : goal.loop-v-init
unfolding sum
loop-v-init c = (omega arith, omega arith)

pub overflow_cast-next : goal.overflow_cast-next
overflow_cast-next c = omega (arith, few c)

pub overflow_add-next : goal.overflow_add-next
overflow_add-next c =
    let l = c.loop-v in
    omega (arith, few c, l.invariant.1, c.requires.n_bound.1)

pub returns-then-k-next : goal.returns-then-k-next
returns-then-k-next c =
    let l = c.loop-v in
    let a = c.args in
    let b = eqb (get_or a.led.now l.v 0) 0 in
    let x = get_or a.ways.now l.v 0 in
    let h : a.k < l.base + pick b x 0 = rw c.from_source.ensures at c.if-k-next.true in
    record {
      known = c.loop-v-test.true;
      is_source = picked b x l.base a.k l.invariant.1 h;
      base = l.invariant.0;
      low = l.invariant.1;
      high = omega (arith, pick_small b x, h);
    }

pub loop-v-preserved : goal.loop-v-preserved
loop-v-preserved c =
    let l = c.loop-v in
    let a = c.args in (omega (arith, c.from_source.ensures, l.invariant.0, sum-next (from_source_of a.led.now a.ways.now) l.v), c.if-k-next.false)

pub returns : goal.returns
returns c =
    let l = c.loop-v in
    let e : l.v ≡ c.args.n = omega (arith, c.loop-v-test.false) in
    absurd (omega (arith, rw e at l.invariant.0, l.invariant.1, c.requires.n_bound.2))
