use native.Mathlib.Omega.{arith}
use Rattle.summary.proofs.starting.sum.Goals as goal

pub overflow_add-result : goal.overflow_add-result
overflow_add-result c = omega (arith, c.most.ensures, c.requires.u_bound)
