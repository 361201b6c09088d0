-- For our own layers alone: no contract for callers and no claim cites this file.
--
-- The summary as two tables. A table t says which vertices are marked: the sums of the others are known.
--
--   Ends G f s             the table s has the largest sum of f that ends at each vertex; unused places are zero
--   Starts G f s           the same of the largest that starts there
--   EndsBut G f t s        s has the largest sum that ends at each vertex that t does not mark, and 0 elsewhere
--   StartsBut G f t s      s has the largest sum that starts at each vertex that t does not mark; unused places are zero
--   Ahead G v t            t marks v, and with a vertex all that its edges go to
--   Behind G v t           t marks v, and with a vertex all whose edges go to it
--   Cleared t n s s'       s' is s, with 0 for the marked ones of the vertices below n
--   Marked e st m u k t t'   t' is t, where m with marks for those that the first k edges of u go to
--   Tables G w r           r is the summary of G with the weights w; unused places are zero
--   Altering g e st o n w r v      the lists are those of `Weighed`, and r is a summary of weights that differ from w at the vertex v alone
use Rattle.std.specs.Prelude.{◌≡◌, Bool, true, false, ◌&&◌, ◌||◌, List, ℕ, ◌≤◌, ◌<◌, get_or, length}
use Rattle.model.specs.Places.{pick}
use Rattle.model.specs.Graph.{Graph, Edge}
use Rattle.model.specs.Summary.{EndingAt, StartingAt}
use Rattle.model.specs.Summary as model
use Rattle.graph.specs.Model.{as_model}
use Rattle.graph.specs.declared.Graph as reader
use Rattle.paths.specs.Ahead.{weigh, Weighed}
use Rattle.summary.specs.Row.{goes_to_next}
use Rattle.summary.specs.declared.Summary.{Summary}

pub record Ends (G : Graph) (f : ℕ → ℕ) (s : List ℕ) : Type 0 where
  pub size : length s ≡ 128
  pub ending : (v : ℕ) → v < G.n → EndingAt G f v (get_or s v 0)
  pub past : (v : ℕ) → G.n ≤ v → get_or s v 0 ≡ 0

pub record Starts (G : Graph) (f : ℕ → ℕ) (s : List ℕ) : Type 0 where
  pub size : length s ≡ 128
  pub starting : (v : ℕ) → v < G.n → StartingAt G f v (get_or s v 0)
  pub past : (v : ℕ) → G.n ≤ v → get_or s v 0 ≡ 0

pub record EndsBut (G : Graph) (f : ℕ → ℕ) (t : List Bool) (s : List ℕ) : Type 0 where
  pub size : length s ≡ 128
  pub kept : (v : ℕ) → v < G.n → get_or t v false ≡ false → EndingAt G f v (get_or s v 0)
  pub cleared : (v : ℕ) → v < G.n → get_or t v false ≡ true → get_or s v 0 ≡ 0
  pub past : (v : ℕ) → G.n ≤ v → get_or s v 0 ≡ 0

pub record StartsBut (G : Graph) (f : ℕ → ℕ) (t : List Bool) (s : List ℕ) : Type 0 where
  pub size : length s ≡ 128
  pub kept : (v : ℕ) → v < G.n → get_or t v false ≡ false → StartingAt G f v (get_or s v 0)
  pub past : (v : ℕ) → G.n ≤ v → get_or s v 0 ≡ 0

pub record Ahead (G : Graph) (v : ℕ) (t : List Bool) : Type 0 where
  pub own : get_or t v false ≡ true
  pub on : (u x : ℕ) → Edge G u x → get_or t x false ≡ false → get_or t u false ≡ false

pub record Behind (G : Graph) (v : ℕ) (t : List Bool) : Type 0 where
  pub own : get_or t v false ≡ true
  pub on : (u x : ℕ) → Edge G u x → get_or t u false ≡ false → get_or t x false ≡ false

pub record Cleared (t : List Bool) (n : ℕ) (s s' : List ℕ) : Type 0 where
  pub size : length s' ≡ 128
  pub at : (v : ℕ) → v < n → get_or s' v 0 ≡ pick (get_or t v false) 0 (get_or s v 0)
  pub past : (v : ℕ) → n ≤ v → get_or s' v 0 ≡ get_or s v 0

pub record Marked (e st : List ℕ) (m : Bool) (u k : ℕ) (t t' : List Bool) : Type 0 where
  pub size : length t' ≡ 128
  pub at : (x : ℕ) → get_or t' x false ≡ (get_or t x false || (m && goes_to_next e st u k x))

pub record Tables (G : Graph) (w : List ℕ) (r : Summary) : Type 0 where
  pub sums : model.Summary G (weigh w) (λ v. get_or r.ending v 0) (λ v. get_or r.starting v 0)
  pub ending_size : length r.ending ≡ 128
  pub starting_size : length r.starting ≡ 128
  pub ending_past : (v : ℕ) → G.n ≤ v → get_or r.ending v 0 ≡ 0
  pub starting_past : (v : ℕ) → G.n ≤ v → get_or r.starting v 0 ≡ 0

pub record Altering (g : reader.Graph) (e st o : List ℕ) (n : ℕ) (w : List ℕ) (r : Summary) (v : ℕ) : Type 0 where
  pub weighed : Weighed g e st o n w
  pub vertex : v < g.n
  pub old : List ℕ
  pub summed : Tables (as_model g) old r
  pub same : (u : ℕ) → (u ≡ v → ⊥) → weigh old u ≡ weigh w u
