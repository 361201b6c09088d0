use mathlib.Core.Path.{ap₂}
use Prim.Native.Nat.{ℕ, ◌+◌, ◌-◌}
use Rattle.gaining.proofs.table.gain.Goals as goal

pub returns : goal.returns
returns c =
    let a = c.args in
    ap₂ (λ (x y : ℕ). a.len - x + (y - a.weight)) c.max-rest.ensures c.of_ticks-parts.ensures
