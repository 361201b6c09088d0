-- For our own layers alone: no contract for callers and no claim cites this file.
--
-- Who comes after each task, as the code keeps it: a table with a set for each.
--
--   Spread old on v new    v was put in the sets of those for which the test holds, and nothing else has changed
--   From p u set           of the numbers k = u × 256 + v, the test p holds for those with v in the set
use Rattle.std.specs.Prelude.{◌≡◌, Bool, false, ◌&&◌, ◌||◌, List, ℕ, ◌+◌, ◌*◌, ◌≤◌, ◌<◌, length, eqb}
use Rattle.vset.specs.Members.{is_in}
use Rattle.vset.specs.declared.Vset.{Vset}
use Rattle.sets.specs.Sets.{row_of}

pub record Spread (old : List (List ℕ)) (on : ℕ → Bool) (v : ℕ) (new : List (List ℕ)) : Type 0 where
  pub long : length new ≡ 128
  pub at : (u k : ℕ) → k < 128 → is_in (row_of new u) k ≡ is_in (row_of old u) k || (on u && eqb k v)

pub record From (p : ℕ → Bool) (u : ℕ) (set : Vset) : Type 0 where
  pub members : (v : ℕ) → v < 128 → p (256 * u + v) ≡ is_in set v
  pub others : (v : ℕ) → 128 ≤ v → v < 256 → p (256 * u + v) ≡ false
