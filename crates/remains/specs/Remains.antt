-- For our own layers alone: no contract for callers and no claim cites this file.
--
-- The remaining ticks as a list, place by place.
--
--   place l v          what stands at v
--   TOP                the highest number, for the fewest ticks left where there is nobody
--   lowered l p d v    what is left of v after d ticks, where p says who runs
--   LeastFrom f p x r  r is the least of x and the values of f at the places of p
--   no_more l m v       what stands at v in l is at most what stands there in m
use Rattle.std.specs.Prelude.{◌≡◌, Bool, true, List, ◌⊎◌, ℕ, ◌-◌, ◌≤◌, leb, get_or}
use Rattle.model.specs.Places.{pick}

abbrev pub place : List ℕ → ℕ → ℕ
place l v = get_or l v 0

abbrev pub TOP : ℕ
TOP = 4294967295

unfoldable pub lowered : List ℕ → (ℕ → Bool) → ℕ → ℕ → ℕ
lowered l p d v = get_or l v 0 - pick (p v) d 0

pub record LeastFrom (f : ℕ → ℕ) (p : ℕ → Bool) (x r : ℕ) : Type 0 where
  pub top : r ≤ x
  pub low : (v : ℕ) → p v ≡ true → r ≤ f v
  pub is : (r ≡ x) ⊎ ((v : ℕ) × (p v ≡ true) × (f v ≡ r))

unfoldable pub no_more : List ℕ → List ℕ → ℕ → Bool
no_more l m v = leb (get_or l v 0) (get_or m v 0)
