use mathlib.Core.Path.{◌≡◌}
use Prim.Native.Nat.{◌-◌, ◌≤◌}
use Rattle.model.specs.Places.{padded}
use Rattle.second.specs.Shares.{share_by}
use Rattle.second.proofs.accepted.shares.Given as goal

abbrev pub invariant-loop-s : goal.invariant-loop-s
invariant-loop-s l =
    l.list ≡ padded 10 (share_by l.cores) l.s
