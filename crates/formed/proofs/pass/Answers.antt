use native.Mathlib.Omega.{arith}
use Rattle.recorded.proofs.Records.{fine}
use Rattle.formed.proofs.Passing.{met_next}
use Rattle.formed.proofs.pass.Goals as goal

pub switched-requires : goal.switched-requires
switched-requires c = omega (arith, (fine _ _ _ c.requires.3).vertex, c.requires.1, c.byte.ensures.0)

pub returns : goal.returns
returns c =
    rw c.key.ensures.0 (met_next _ _ _ _ c.requires.2 c.requires.3 _ (rw (c.starts.ensures, c.byte.ensures.0) at c.switched.ensures))
