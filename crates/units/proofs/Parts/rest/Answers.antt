use native.Mathlib.Nat.{div-le_self}
use native.Mathlib.Omega.{arith}
use Rattle.model.specs.Bounds.{PARTS}
use Rattle.units.proofs.Parts.rest.Goals as goal

pub overflow_sub-result : goal.overflow_sub-result
overflow_sub-result c = omega (arith, div-le_self PARTS c.args.cores)
