use mathlib.Core.Path.{◌≡◌}
use Prim.Native.Nat.{ℕ, ◌-◌, ◌≤◌}
use Rattle.vset.specs.Members.{is_in, Members}
use Rattle.vset.proofs.Rank.{firsts, lasts}
use Rattle.vset.proofs.first.Given as goal

abbrev pub invariant-loop-j : goal.invariant-loop-j
invariant-loop-j l = Members l.got (firsts (is_in l.initial.rest) l.j) × ((k : ℕ) → is_in l.rest k ≡ lasts (is_in l.initial.rest) l.j k)
