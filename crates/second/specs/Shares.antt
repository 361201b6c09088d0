-- For our own layers alone: no contract for callers and no claim cites this file.
--
--   share_by m s     the share of a tick that a core of kind s is, by the list m of cores
use Rattle.std.specs.Prelude.{List, ℕ, ◌/◌, get_or}
use Rattle.model.specs.Bounds.{PARTS}

unfoldable pub share_by : List ℕ → ℕ → ℕ
share_by m s = PARTS / get_or m s 0
