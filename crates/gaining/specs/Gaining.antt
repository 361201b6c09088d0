-- For our own layers alone: no contract for callers and no claim cites this file.
--
-- The gains as a table.
--
--   left_by p e s w               what is left of the longest path without a vertex's weight w: the larger one of what passes it, p, and of the best
--                                path through it, by its sums e and s
--   gain_by len p e s w c         what the longest path len loses then, and the vertex's part of the volume, with the WCET c
--   Fitting len p e s w c        no difference is cut off, and the sums fit
--   Gainable g e st o n w c r    the lists are those of `Weighed`, w are the scaled weights and c the WCETs, and r is the summary
--   GainsIn G l                  the table l has the gain of each vertex; unused places are zero
use Rattle.std.specs.Prelude.{◌≡◌, List, ℕ, ◌+◌, ◌-◌, ◌*◌, ◌≤◌, ◌<◌, max, get_or, length}
use Rattle.model.specs.Graph.{Graph}
use Rattle.model.specs.Bounds.{PARTS, scaled}
use Rattle.model.specs.Gain.{GainOf}
use Rattle.graph.specs.Model.{as_model}
use Rattle.graph.specs.declared.Graph as reader
use Rattle.paths.specs.Ahead.{weigh, Weighed}
use Rattle.summary.specs.Tables.{Tables}
use Rattle.summary.specs.declared.Summary.{Summary}

abbrev pub left_by : ℕ → ℕ → ℕ → ℕ → ℕ
left_by p e s w = max p (e + s - w - w)

abbrev pub gain_by : ℕ → ℕ → ℕ → ℕ → ℕ → ℕ → ℕ
gain_by len p e s w c = len - left_by p e s w + (c * PARTS - w)

pub record Fitting (len p e s w c : ℕ) : Type 0 where
  pub whole : len ≤ 92252160000000
  pub left : left_by p e s w ≤ len
  pub small_ending : e ≤ 92252160000000
  pub small_starting : s ≤ 92252160000000
  pub own_ending : w ≤ e
  pub own_starting : w ≤ s
  pub short : c ≤ 1000000
  pub own_part : w ≤ c * PARTS

pub record Gainable (g : reader.Graph) (e st o : List ℕ) (n : ℕ) (w c : List ℕ) (r : Summary) : Type 0 where
  pub weighed : Weighed g e st o n w
  pub scaled_weights : (v : ℕ) → v < g.n → weigh w v ≡ scaled (as_model g) v
  pub wcets : c ≡ g.wcet
  pub summed : Tables (as_model g) w r

pub record GainsIn (G : Graph) (l : List ℕ) : Type 0 where
  pub size : length l ≡ 128
  pub gain : (v : ℕ) → v < G.n → GainOf G v (get_or l v 0)
  pub past : (v : ℕ) → G.n ≤ v → get_or l v 0 ≡ 0
