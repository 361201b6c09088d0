use mathlib.Core.Path.{refl, ap, subst, ◌∙◌}
use mathlib.Core.Bool.{◌||◌}
use Prim.Native.Nat.{ℕ, ◌+◌, ◌*◌, ◌≤◌}
use native.Mathlib.Nat.{mul-le-mul_left, mul-le-mul_right}
use native.Mathlib.Omega.{arith}
use lib.ListN.{get_or}
use Rattle.vset.specs.declared.Vset.{Vset}
use Rattle.vset.specs.Members.{is_in, Members}
use Rattle.visit.proofs.Totals.{total_ext, total-small}
use Rattle.visit.proofs.gain.opened.Goals as goal
use Rattle.visit.proofs.gain.opened.Goals.{After-either-more}

-- the parts of those beside it, and its own
shares : (c : After-either-more)
    → c.ticks-fresh.result * get_or c.args.share.now (get_or c.args.kind.now c.args.v 0) 0 ≤ 92252160000000
shares c =
    let x = c.ticks-fresh.result in
    let y = get_or c.args.share.now (get_or c.args.kind.now c.args.v 0) 0 in
    let h : x ≤ 128000000 = omega (arith, c.ticks-fresh.ensures, total-small c.args.wcet.now c.requires.by_index (is_in c.minus.result)) in
    omega (arith, mul-le-mul_right y h, mul-le-mul_left 128000000 c.requires.v_bound.2)

own : (c : After-either-more)
    → get_or c.args.wcet.now c.args.v 0 * 720720 ≤ 720720000000
own c = omega (arith, c.requires.by_index c.args.v)

pub overflow_cast-own : goal.overflow_cast-own
overflow_cast-own c = omega (arith, c.requires.by_index c.args.v)

pub overflow_mul-own : goal.overflow_mul-own
overflow_mul-own c = omega (arith, c.requires.by_index c.args.v)

pub overflow_mul-result : goal.overflow_mul-result
overflow_mul-result c = omega (arith, shares c)

pub overflow_add-result : goal.overflow_add-result
overflow_add-result c = omega (arith, shares c, own c)

pub overflow_add-result-2 : goal.overflow_add-result-2
overflow_add-result-2 c = omega (arith, shares c, own c, c.requires.value_bound)

pub returns : goal.returns
returns c =
    let a = c.args in
    record {
      vertex = refl;
      first = refl;
      set = subst (λ (y : Vset). Members c.either-more.result (λ w. is_in a.beside w || is_in y w)) c.row-row.ensures c.either-more.ensures;
      value = ap (λ (x : ℕ). a.value + (get_or a.wcet.now a.v 0 * 720720 + x * get_or a.share.now (get_or a.kind.now a.v 0) 0))
          (c.ticks-fresh.ensures ∙ total_ext a.wcet.now (rw c.row-row.ensures at c.minus.ensures.are));
    }
