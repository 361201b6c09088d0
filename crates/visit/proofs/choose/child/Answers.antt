use mathlib.Core.Path.{◌≡◌}
use mathlib.Core.Logic.{⊎_elim}
use Prim.Native.Nat.{ℕ, ◌+◌, ◌-◌, ◌<◌}
use native.Mathlib.Omega.{arith}
use lib.ListN.{get_or}
use Rattle.model.specs.Places.{sum}
use Rattle.model.proofs.Bools.{le-or-lt}
use Rattle.model.proofs.Turns.{sum-next}
use Rattle.summary.specs.Row.{many, nth}
use Rattle.visit.proofs.choose.child.Goals as goal
use Rattle.visit.proofs.choose.child.Goals.{After-many-last}

pub many-last-requires : goal.many-last-requires
many-last-requires c = c.requires.row.span

-- k is the number of a path by way of one of them
some : (c : After-many-last) → 0 < many c.args.start.now c.args.u
unfolding sum
some c =
    let p = c.requires.first_le_k in
    let m = many c.args.start.now c.args.u in
    ⊎_elim (λ l. omega (arith, l)) (λ l. absurd (let e : m ≡ 0 = omega (arith, l) in omega (arith, p.0, rw e at p.2))) (le-or-lt 1 m)

pub overflow_sub-last : goal.overflow_sub-last
overflow_sub-last c = omega (arith, some c, c.many-last.ensures)

pub loop-j-init : goal.loop-j-init
unfolding sum
loop-j-init c = (omega arith, c.requires.first_le_k.0)

pub nth-v-requires : goal.nth-v-requires
nth-v-requires c = record { row = c.requires.row; k_bound = omega (arith, c.many-last.ensures) }

pub overflow_cast-next : goal.overflow_cast-next
overflow_cast-next c = omega (arith, c.requires.by_index c.nth-v.result)

pub overflow_add-next : goal.overflow_add-next
overflow_add-next c =
    omega (arith, c.loop-j.invariant.1, c.requires.first_le_k.1, c.requires.by_index c.nth-v.result)

pub returns-then-k-next : goal.returns-then-k-next
returns-then-k-next c =
    let l = c.loop-j in
    record {
      place = l.j;
      within = omega (arith, c.many-last.ensures, c.loop-j-test.true);
      vertex = c.nth-v.ensures.value;
      base = l.invariant.0;
      low = l.invariant.1;
      high = c.if-k-next.true;
    }

pub loop-j-preserved : goal.loop-j-preserved
loop-j-preserved c =
    let l = c.loop-j in
    let a = c.args in (
      rw c.nth-v.ensures.value (omega (arith, l.invariant.0, sum-next (λ i. get_or a.ways.now (nth a.edge.now a.start.now a.u i) 0) l.j)),
      c.if-k-next.false,
    )

pub nth-v-requires-2 : goal.nth-v-requires-2
nth-v-requires-2 c = record { row = c.requires.row; k_bound = omega (arith, c.many-last.ensures, some (goal.at.nth-v-requires-2 c).After-many-last) }

pub returns : goal.returns
returns c =
    let l = c.loop-j in
    let a = c.args in
    let e : many a.start.now a.u ≡ l.j + 1 = omega (arith, c.many-last.ensures, c.loop-j-test.false, some (goal.at.returns c).After-many-last) in
    let is = let q : c.many-last.result - 1 ≡ l.j = omega arith in rw q at c.nth-v-2.ensures.value in
    let f : ℕ → ℕ = λ (i : ℕ). get_or a.ways.now (nth a.edge.now a.start.now a.u i) 0 in
    record {
      place = l.j;
      within = omega arith;
      vertex = is;
      base = l.invariant.0;
      low = l.invariant.1;
      high = rw is (omega (arith, l.invariant.0, rw e at c.requires.first_le_k.2, sum-next f l.j));
    }
