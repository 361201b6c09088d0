use mathlib.Core.Path.{◌≡◌}
use mathlib.Core.List.{List}
use Prim.Native.Nat.{ℕ}
use lib.ListN.{get_or}
use Rattle.model.specs.Places.{pick, largest}
use Rattle.weights.proofs.Used.{has}
use Rattle.weights.proofs.volume.most_cores.Given as goal

-- the cores that count of the kind s, among n vertices
abbrev pub counts : List ℕ → List ℕ → ℕ → ℕ → ℕ
counts kind cores n s = pick (has kind n s) (get_or cores s 0) 0

abbrev pub invariant-loop-s : goal.invariant-loop-s
invariant-loop-s l = l.most ≡ largest (counts l.kind l.cores l.n) l.s
