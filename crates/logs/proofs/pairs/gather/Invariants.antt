use Prim.Native.Nat.{◌-◌, ◌≤◌}
use Rattle.times.specs.Times.{times_of}
use Rattle.remains.specs.Remains.{place}
use Rattle.logs.specs.Keys.{Gathered}
use Rattle.logs.proofs.pairs.gather.Given as goal

abbrev pub invariant-loop-v : goal.invariant-loop-v
invariant-loop-v l =
    Gathered (times_of l.times) (place l.finishes) l.v l.m l.keys
