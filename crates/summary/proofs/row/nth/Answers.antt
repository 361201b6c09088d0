use native.Mathlib.Omega.{arith}
use Rattle.summary.proofs.row.nth.Goals as goal

pub returns : goal.returns
returns c =
    record { value = c.to.ensures; upper_bound = omega (arith, c.to.ensures, c.requires.row.ends c.args.k c.requires.k_bound) }
