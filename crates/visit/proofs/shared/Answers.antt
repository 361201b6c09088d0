use mathlib.Core.Path.{◌≡◌, sym, subst}
use Prim.Native.Nat.{◌+◌, ◌-◌, ◌≤◌, ◌<◌}
use native.Mathlib.Omega.{arith}
use lib.ListN.{get_or}
use Rattle.visit.specs.declared.cell.Cell.{Cell}
use Rattle.visit.proofs.shared.Goals as goal
use Rattle.visit.proofs.shared.Goals.{After-at-c}

-- the cell that is looked at
known : (c : After-at-c) → (c.at-c.result.v < 128) × (c.at-c.result.base ≤ c.args.k)
known c =
    subst (λ (x : Cell). (x.v < 128) × (x.base ≤ c.args.k)) (sym c.at-c.ensures) (c.requires.by_index_2 (c.loop-i.i - 1) (omega arith))

pub at-c-requires : goal.at-c-requires
at-c-requires c = omega (arith, c.requires.depth_bound.0)

pub offset_bounds-ways-v : goal.offset_bounds-ways-v
offset_bounds-ways-v c = omega (arith, (known c).0)

pub bounds-ways-v : goal.bounds-ways-v
bounds-ways-v c = (known (goal.at.bounds-ways-v c).After-at-c).0

pub overflow_cast-ways : goal.overflow_cast-ways
overflow_cast-ways c = omega (arith, c.requires.by_index c.at-c.result.v)

pub overflow_add-c : goal.overflow_add-c
overflow_add-c c =
    let p = c.requires in
    omega (arith, (known (goal.at.overflow_add-c c).After-at-c).1, p.depth_bound.1, p.by_index c.at-c.result.v)

pub returns-then-k-c : goal.returns-then-k-c
returns-then-k-c c =
    let last : c.loop-i.i - 1 + 1 - 1 ≡ c.loop-i.i - 1 = omega arith in
    record { upper_bound = omega arith; k_bound = λ h. rw last (subst (λ (x : Cell). c.args.k < x.base + get_or c.args.ways.now x.v 0) c.at-c.ensures c.if-k-c.true) }

pub returns : goal.returns
returns c = record { upper_bound = omega arith; k_bound = λ h. absurd (omega arith) }
