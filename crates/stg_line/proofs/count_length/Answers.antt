use native.Mathlib.Omega.{arith}
use Rattle.stg_line.proofs.Laying.{line-long}
use Rattle.stg_line.proofs.count_length.Goals as goal

pub returns : goal.returns
returns c = omega (arith, c.width.ensures.0, line-long c.args.n)
