use mathlib.Core.Path.{◌≡◌, refl}
use Prim.Native.Nat.{◌/◌, ◌%◌}
use native.Mathlib.Omega.{arith}
use Rattle.recorded.specs.LogOf.{log_record}
use Rattle.logs.proofs.lent.record.Goals as goal

pub returns : goal.returns
unfolding log_record
returns c =
    let high : c.args.key / 512 / 16777216 % 256 ≡ c.args.key / 512 / 16777216 = omega (arith, c.requires) in
    rw (c.kind_of-kind.ensures, c.to_le_bytes.ensures, high) refl
