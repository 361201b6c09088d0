-- For our own layers alone: no contract for callers and no claim cites this file.
--
-- The least path with the largest sum, step by step: to the least successor that keeps the sum.
--
--   Trace G f s u p         p is what such steps give after u
--   Traceable g e st w s h old   the lists are an accepted graph's and its longest sums, h is a vertex, and old has room for a path
--   Traced G f s h ..       the trace from h stands in the list, with h before it; the places past it are as they were
--   Keeps e w s u i         edge i, of the list e, goes to a vertex that keeps u's sum; w are the weights, s the sums
--   Onward e st w s u v     v is where the first such edge of u goes, by the starts st, or 128 where there is none. Only private
--                           contracts cite these two
use Rattle.std.specs.Prelude.{◌≡◌, List, [], ◌∷◌, ◌++◌, ℕ, suc, ◌+◌, ◌≤◌, ◌<◌, get_or, length, drop}
use Rattle.model.specs.Graph.{Graph, Edge, Sink}
use Rattle.graph.specs.declared.Graph as reader
use Rattle.graph.specs.Model.{as_model}
use Rattle.paths.specs.Ahead.{weigh, Light, Longest, RowsOf}
use Rattle.paths.specs.Along.{goes, sum_by}

pub data Trace (G : Graph) (f s : ℕ → ℕ) : ℕ → List ℕ → Type 0 where
  stop : {u : ℕ} → u < G.n → Sink G u → Trace G f s u []
  on : {u v : ℕ} {p : List ℕ} → Edge G u v → f v + s v ≡ s u → ((x : ℕ) → Edge G u x → f x + s x ≡ s u → v ≤ x)
      → Trace G f s v p → Trace G f s u (v ∷ p)

pub record Traceable (g : reader.Graph) (e st w s : List ℕ) (h : ℕ) (old : List ℕ) : Type 0 where
  pub rows : RowsOf g e st
  pub light : Light (as_model g) w
  pub longest : Longest (as_model g) (weigh w) s
  pub vertex : h < g.n
  pub room : g.n ≤ length old

pub record Traced (G : Graph) (f s : ℕ → ℕ) (h : ℕ) (old new : List ℕ) (n : ℕ) : Type 0 where
  pub rest : List ℕ
  pub trace : Trace G f s h rest
  pub count : n ≡ suc (length rest)
  pub held : new ≡ (h ∷ rest) ++ drop n old

abbrev pub Keeps : List ℕ → List ℕ → List ℕ → ℕ → ℕ → Type 0
Keeps e w s u i = sum_by e w s i ≡ get_or s u 0

pub data Onward (e st w s : List ℕ) (u : ℕ) : ℕ → Type 0 where
  by_edge : (i v : ℕ) → get_or st u 0 ≤ i → i < get_or st (u + 1) 0 → v ≡ goes e i → Keeps e w s u i
      → ((j : ℕ) → get_or st u 0 ≤ j → j < i → Keeps e w s u j → ⊥) → Onward e st w s u v
  at_end : ((j : ℕ) → get_or st u 0 ≤ j → j < get_or st (u + 1) 0 → Keeps e w s u j → ⊥) → Onward e st w s u 128
