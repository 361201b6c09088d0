-- For our own layers alone: no contract for callers and no claim cites this file.
--
-- The edges of one vertex u, in an edge list e with the starts st of the vertices' edges, and what is done along them.
--
--   many st u                 how many edges u has
--   nth e st u k              where the k-th of them goes
--   goes_to_next e st u k x         one of the first k of them goes to x
--   most_over e st s u k       the largest in the list s of the vertices that the first k of them go to, or 0
--   Span st u                 the edges of u stand in the list
--   Row e st u                the same, and they go to vertices
--   Told e st b u k s s'      the list s, after the first k edges of u have raised what stands for each vertex x that they go to: to b x
use Rattle.std.specs.Prelude.{◌≡◌, Bool, List, ℕ, ◌+◌, ◌-◌, ◌≤◌, ◌<◌, max, eqb, get_or, length}
use Rattle.model.specs.Places.{pick, any, largest}
use Rattle.starts.specs.Starts.{leads_to}

abbrev pub many : List ℕ → ℕ → ℕ
many st u = get_or st (u + 1) 0 - get_or st u 0

abbrev pub nth : List ℕ → List ℕ → ℕ → ℕ → ℕ
nth e st u k = leads_to e (get_or st u 0 + k)

abbrev pub goes_to_next : List ℕ → List ℕ → ℕ → ℕ → ℕ → Bool
goes_to_next e st u k x = any (λ j. eqb (nth e st u j) x) k

abbrev pub most_over : List ℕ → List ℕ → List ℕ → ℕ → ℕ → ℕ
most_over e st s u k = largest (λ j. get_or s (nth e st u j) 0) k

pub record Span (st : List ℕ) (u : ℕ) : Type 0 where
  pub vertex : u < 128
  pub ascends : get_or st u 0 ≤ get_or st (u + 1) 0
  pub within : get_or st (u + 1) 0 ≤ 1024

pub record Row (e st : List ℕ) (u : ℕ) : Type 0 where
  pub span : Span st u
  pub ends : (k : ℕ) → k < many st u → nth e st u k < 128

pub record Told (e st : List ℕ) (b : ℕ → ℕ) (u k : ℕ) (s s' : List ℕ) : Type 0 where
  pub size : length s' ≡ 128
  pub at : (x : ℕ) → get_or s' x 0 ≡ pick (goes_to_next e st u k x) (max (get_or s x 0) (b x)) (get_or s x 0)
