use Prim.Native.Nat.{◌+◌, ◌*◌}
use mathlib.Core.Path.{refl}
use native.Mathlib.Omega.{arith}
use Rattle.records.proofs.byte.Goals as goal

pub overflow_cast-result : goal.overflow_cast-result
overflow_cast-result c = omega (arith, c.shared_slice_known-1.given (8 * c.args.k + c.args.j))

pub returns : goal.returns
returns c = (refl, omega (arith, c.shared_slice_known-1.given (8 * c.args.k + c.args.j)))
