use mathlib.Core.Path.{◌≡◌}
use mathlib.Core.Bool.{Bool, ◌&&◌}
use mathlib.Core.List.{List}
use Prim.Native.Nat.{ℕ}
use lib.Dec.{eqb}
use lib.ListN.{get_or}
use Rattle.model.specs.Places.{count, every}
use Rattle.vset.specs.Members.{is_in}
use Rattle.sets.specs.Sets.{row_of}
use Rattle.waiting.proofs.agree.Given as goal

-- the number of v is that of those for whom q holds in its row
abbrev pub right : List (List ℕ) → List ℕ → (ℕ → Bool) → ℕ → Bool
right p w q v = eqb (get_or w v 0) (count (λ u. is_in (row_of p v) u && q u) 128)

abbrev pub invariant-loop-v : goal.invariant-loop-v
invariant-loop-v l = l.ok ≡ every (right l.pred l.waiting (is_in l.some)) l.v
