-- For our own layers alone: no contract for callers and no claim cites this file.
--
-- Which vertices stand behind one that has ticks left.
--
--   some_left l v            v has ticks left, by the list l
--   behind_within G p r v    v has an ancestor for which p holds, at most r edges back
--   is_behind G p v          v has an ancestor for which p holds; N edges are enough where there is no cycle
use Rattle.std.specs.Prelude.{Bool, false, ◌&&◌, ◌||◌, List, ℕ, zero, suc, ltb, get_or}
use Rattle.model.specs.Places.{any}
use Rattle.model.specs.Graph as model

unfoldable pub some_left : List ℕ → ℕ → Bool
some_left l v = ltb 0 (get_or l v 0)

unfoldable pub behind_within : model.Graph → (ℕ → Bool) → ℕ → ℕ → Bool
behind_within G p zero v = false
behind_within G p (suc r) v = any (λ u. G.edge u v && (p u || behind_within G p r u)) G.n

unfoldable pub is_behind : model.Graph → (ℕ → Bool) → ℕ → Bool
is_behind G p v = behind_within G p G.n v
