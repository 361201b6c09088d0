use mathlib.Core.Path.{◌≡◌}
use mathlib.Core.Bool.{Bool}
use Prim.Native.Nat.{ℕ, ◌≤◌}
use native.Mathlib.Omega.{arith}
use Rattle.model.specs.Places.{bit}
use Rattle.model.proofs.Bools.{bit_le}
use Rattle.graph.specs.File.{is_order}
use Rattle.model.proofs.Places.{count-le}
use Rattle.records.proofs.Passing.{before_more}
use Rattle.records.proofs.pass.Goals as goal

-- a test adds at most one
met : (n : ℕ) (b : Bool) → n ≡ bit b → n ≤ 1
met n b e = rw e (bit_le b)

pub overflow_add-result : goal.overflow_add-result
overflow_add-result c =
    let a = c.before.before.before.before in
    omega (arith, met c.from.result _ c.from.ensures, a.requires.1.kinds_passed, count-le (is_order a.args.file.now 0) a.args.k)

pub overflow_add-result-2 : goal.overflow_add-result-2
overflow_add-result-2 c =
    let a = c.before.before.before.before.before.before in
    omega (arith, met c.from-2.result _ c.from-2.ensures, a.requires.1.vertices_passed, count-le (is_order a.args.file.now 1) a.args.k)

pub overflow_add-result-3 : goal.overflow_add-result-3
overflow_add-result-3 c =
    let a = c.before.before.before.before.before.before.before.before in
    omega (arith, met c.from-3.result _ c.from-3.ensures, a.requires.1.edges_passed, count-le (is_order a.args.file.now 2) a.args.k)

pub returns : goal.returns
returns c =
    let b = c.before.before in
    let a = b.before.before.before.before.before.before.before in
    rw (c.max.ensures, b.from-3.ensures, b.before.before.from-2.ensures, b.before.before.before.before.from.ensures, b.before.before.before.before.before.order_of-order.ensures.0)
    (before_more a.args.file.now a.args.k a.args.p a.requires.1)
