use mathlib.Core.Path.{ap, ◌∙◌}
use Prim.Native.Nat.{ℕ, ◌+◌, ◌*◌, ◌≤◌}
use native.Mathlib.Nat.{mul-le-mul_right, mul-le-mul_left, mul_comm}
use native.Mathlib.Omega.{arith}
use Rattle.model.specs.Bounds.{PARTS}
use Rattle.bounds.proofs.accepted.old_b.Goals as goal
use Rattle.bounds.proofs.accepted.old_b.Goals.{After-rest}

product : (c : After-rest) → c.args.len.0 * c.rest.result.0 ≤ 92252160000000
product c =
    let k : c.rest.result.0 ≤ PARTS = omega (arith, c.rest.ensures) in
    omega (arith, mul-le-mul_right c.rest.result.0 c.requires.0, mul-le-mul_left 128000000 k)

pub for_ticks-requires : goal.for_ticks-requires
for_ticks-requires c = omega (arith, product c)

pub plus-requires : goal.plus-requires
plus-requires c = omega (arith, c.for_ticks.ensures, product (goal.at.plus-requires c).After-rest, c.requires.2)

pub returns : goal.returns
returns c =
    let a = c.args in
    c.plus.ensures
    ∙ ap (λ (x : ℕ). x + a.shares.0) (c.for_ticks.ensures ∙ mul_comm a.len.0 c.rest.result.0 ∙ ap (λ (x : ℕ). x * a.len.0) c.rest.ensures)
