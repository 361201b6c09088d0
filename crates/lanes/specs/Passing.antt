-- For our own layers alone: no contract for callers and no claim cites this file.
--
-- What the pass over a log in form has between two records: the lists that it goes by, and the cores that the vertices got last.
--
--   listed xs i                   what the list has at place i
--   Lists n l kind cores          a log in form, kinds that are known, and few cores
--   Got n l kind cores k core     the list has the core that each vertex got last
use Rattle.std.specs.Prelude.{◌≡◌, List, ℕ, ◌≤◌, ◌<◌, length, get_or}
use Rattle.recorded.specs.Log.{InForm}
use Rattle.lanes.specs.Lanes.{core_of}

abbrev pub listed : List ℕ → ℕ → ℕ
listed xs i = get_or xs i 0

pub record Lists (n : ℕ) (l kind cores : List ℕ) : Type 0 where
  pub few : n ≤ 128
  pub in_form : InForm n l
  pub known : (v : ℕ) → v < n → get_or kind v 0 < 10
  pub few_cores : (v : ℕ) → v < n → get_or cores (get_or kind v 0) 0 ≤ 16

pub record Got (n : ℕ) (l kind cores : List ℕ) (k : ℕ) (core : List ℕ) : Type 0 where
  pub size : length core ≡ 128
  pub at : (v : ℕ) → v < 128 → get_or core v 0 ≡ core_of n l (listed kind) (listed cores) k v
  pub few : (v : ℕ) → get_or core v 0 ≤ 16
