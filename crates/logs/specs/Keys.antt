-- For our own layers alone: no contract for callers and no claim cites this file.
--
-- The keys of a run's records, as the code finds them from the times e and the finish instants F. A key is as in recorded's LogOf.
--
--   start_key e F v, stop_key F v    the keys of the start and of the stop of v
--   KeyOf e F v x                  x is one of them, and v has a time
--   Gathered e F n m l             the first m of the list are the keys of the vertices below n, each of them once
--   BOUND                          no key of an instant of 32 bits is as high
use Rattle.std.specs.Prelude.{◌≡◌, ◌⊎◌, List, ℕ, ◌+◌, ◌-◌, ◌*◌, ◌≤◌, ◌<◌, get_or, length}

unfoldable pub start_key : (ℕ → ℕ) → (ℕ → ℕ) → ℕ → ℕ
start_key e F v = 512 * (F v - e v) + 256 + v

unfoldable pub stop_key : (ℕ → ℕ) → ℕ → ℕ
stop_key F v = 512 * F v + v

pub record KeyOf (e F : ℕ → ℕ) (n x : ℕ) : Type 0 where
  pub v : ℕ
  pub known : v < n
  pub some : 0 < e v
  pub is : (x ≡ stop_key F v) ⊎ (x ≡ start_key e F v)

pub record Gathered (e F : ℕ → ℕ) (n m : ℕ) (l : List ℕ) : Type 0 where
  pub long : length l ≡ 256
  pub few : m ≤ 2 * n
  pub of : (i : ℕ) → i < m → KeyOf e F n (get_or l i 0)
  pub stop : (v : ℕ) → v < n → 0 < e v → (i : ℕ) × (i < m) × (get_or l i 0 ≡ stop_key F v)
  pub start : (v : ℕ) → v < n → 0 < e v → (i : ℕ) × (i < m) × (get_or l i 0 ≡ start_key e F v)
  pub once : (i j : ℕ) → i < m → j < m → get_or l i 0 ≡ get_or l j 0 → i ≡ j

abbrev pub BOUND : ℕ
BOUND = 2199023255552
