use Prim.Native.Nat.{◌+◌}
use mathlib.Core.Path.{◌∙◌}
use native.Mathlib.Numerals.{add-one}
use native.Mathlib.Omega.{arith}
use lib.ListN.{set, length-set}
use lib.Seq.{length-sets}
use Rattle.stg_text.specs.Canonical.{decimal}
use Rattle.stg_line.proofs.number.put_field.Goals as goal

pub put-requires : goal.put-requires
put-requires c = let a = c.args in (c.requires.0, rw (length-set a.out.now a.at 32) (omega (arith, c.requires.1)))

pub shape_of-out : goal.shape_of-out
shape_of-out c = let a = c.args in rw c.put.ensures.1 (length-sets (set a.out.now a.at 32) (a.at + 1) (decimal a.x) ∙ length-set a.out.now a.at 32)

pub returns : goal.returns
returns c = let a = c.args in (omega (arith, c.put.ensures.0), rw (add-one a.at) at c.put.ensures.1)
