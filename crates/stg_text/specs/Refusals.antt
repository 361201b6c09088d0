-- What a refused text has, in the order's words.
--
--   AtFault s i    line i is the first at fault among those that there must be and those that there are
use Rattle.std.specs.Prelude.{◌≡◌, true, false, List, ℕ, ◌<◌}
use Rattle.stg_text.specs.Layout.{faulty, lines_due}

pub record AtFault (s : List ℕ) (i : ℕ) : Type 0 where
  pub within : i < lines_due s
  pub here : faulty s i ≡ true
  pub not_before : (j : ℕ) → j < i → faulty s j ≡ false
