-- For our own layers alone: no contract for callers and no claim cites this file.
--
-- What lies ahead of a vertex follows from its successors, once it is known of all of them. Only private contracts cite this file: over
-- the lists that the code has, an edge list e, the starts st of the vertices' edges in it, weights w and sums s, and marks m, which are 0
-- for a vertex that no edge goes to.
--
--   goes e i                where edge i goes
--   sum_by e w s i           what lies ahead by edge i: the weight of the vertex that it goes to, and the sum of that
--   Given e w s a b x       x is the sum by one of the edges from a to b, or 0
--   Follows e w s a b x     x is the largest sum by the edges from a to b, or 0 where there are none
--   Visitable e st w s u    the edges of u stand in the list and go to vertices, and the sums by them fit
--   Comparable w s m n h    h is one of the n vertices and unmarked, and every vertex's largest sum fits
--   Foremost w s m n h      of the unmarked vertices, h has the largest sum; of several, it is the first
use Rattle.std.specs.Prelude.{◌≡◌, List, ◌⊎◌, ℕ, ◌+◌, ◌%◌, ◌≤◌, ◌<◌, get_or}
use Rattle.paths.specs.Ahead.{weigh, sum_at}

abbrev pub goes : List ℕ → ℕ → ℕ
goes e i = get_or e i 0 % 256

abbrev pub sum_by : List ℕ → List ℕ → List ℕ → ℕ → ℕ
sum_by e w s i = weigh w (goes e i) + get_or s (goes e i) 0

abbrev pub Given : List ℕ → List ℕ → List ℕ → ℕ → ℕ → ℕ → Type 0
Given e w s a b x = (x ≡ 0) ⊎ ((i : ℕ) × (a ≤ i) × (i < b) × (x ≡ sum_by e w s i))

pub record Follows (e w s : List ℕ) (a b x : ℕ) : Type 0 where
  pub most : (i : ℕ) → a ≤ i → i < b → sum_by e w s i ≤ x
  pub attained : Given e w s a b x

pub record Visitable (e st w s : List ℕ) (u : ℕ) : Type 0 where
  pub vertex : u < 128
  pub row : get_or st u 0 ≤ get_or st (u + 1) 0
  pub within : get_or st (u + 1) 0 ≤ 1024
  pub ends : (i : ℕ) → get_or st u 0 ≤ i → i < get_or st (u + 1) 0 → goes e i < 128
  pub fits : (i : ℕ) → get_or st u 0 ≤ i → i < get_or st (u + 1) 0 → sum_by e w s i < 18446744073709551616

pub record Comparable (w s m : List ℕ) (n h : ℕ) : Type 0 where
  pub few : n ≤ 128
  pub vertex : h < n
  pub unmarked : get_or m h 0 ≡ 0
  pub fits : (v : ℕ) → v < n → sum_at (weigh w) (weigh s) v < 18446744073709551616

pub record Foremost (w s m : List ℕ) (n h : ℕ) : Type 0 where
  pub vertex : h < n
  pub unmarked : get_or m h 0 ≡ 0
  pub most : (u : ℕ) → u < n → get_or m u 0 ≡ 0 → sum_at (weigh w) (weigh s) u ≤ sum_at (weigh w) (weigh s) h
  pub first : (u : ℕ) → u < h → get_or m u 0 ≡ 0 → sum_at (weigh w) (weigh s) u < sum_at (weigh w) (weigh s) h
