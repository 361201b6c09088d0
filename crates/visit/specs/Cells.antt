-- For our own layers alone: no contract for callers and no claim cites this file.
--
-- The path that is walked, as a table of cells: one for each of its vertices up to where the walk is. The paths that begin like this one have
-- numbers that stand together: `ways` of them, from the base of the cell on.
--
--   Ground g wy r k c sh    the tables are those of the accepted graph g, which has no more than 4,096 complete paths: wy the numbers of paths, r the
--                           rows of the parallel vertices, k the kinds, c the WCETs, sh the share that a core of each kind is
--   Laid g e st             e is the edge list of g, and st where each vertex's edges begin
--   cell_of l i              the cell at place i of the table l
--   cell_words c             the words of a cell
--   Open G c                whatever path has its number among those of the cell: its value is that of the cell, carried on
--   Stands G i k c          c is such a cell for the i-th vertex of a path, and its numbers begin at k or below
--   Kept G l d k            the first d cells of l are so, and the path with the number k has them
--   Reached G l d k         the same, and there is one
--   Ended G l d k           the same, and the last has the value of that path
--   total_of c p             the WCETs of those with p added up
--   Opened r k c sh v base U x cell      the cell of v after a path that has U beside it and the value x
--   Chosen e st wy u first k s           the vertex that the path with the number k goes to from u, whose numbers begin at first
--   Begun w wy n k s                     the source of the path with the number k
use Rattle.std.specs.Prelude.{◌≡◌, Bool, true, not, ◌&&◌, ◌||◌, List, [], ◌∷◌, ℕ, ◌+◌, ◌-◌, ◌*◌, ◌/◌, ◌≤◌, ◌<◌, eqb, get_or, length}
use Rattle.model.specs.Places.{pick, sum, count}
use Rattle.model.specs.Graph.{Graph}
use Rattle.model.specs.Cycle.{ancestor}
use Rattle.model.specs.Bounds.{PARTS}
use Rattle.model.specs.Second.{second}
use Rattle.model.specs.PathCount.{ways, path_count}
use Rattle.model.specs.Visit.{path_within, path_at, value_from}
use Rattle.graph.specs.declared.Graph as reader
use Rattle.graph.specs.Model.{AcceptedGraph, as_model}
use Rattle.vset.specs.declared.Vset.{Vset}
use Rattle.vset.specs.Members.{is_in, Members}
use Rattle.paths.specs.Ahead.{Weighed}
use Rattle.summary.specs.Row.{many, nth}
use Rattle.ways.specs.Counts.{Counts, from_source_of}
use Rattle.sets.specs.Sets.{row_of, Holds}
use Rattle.parallel.specs.Rows.{beside}
use Rattle.visit.specs.declared.cell.Cell.{Cell}
use Rattle.visit.specs.declared.choose.Step.{Step}

pub record Ground (g : reader.Graph) (wy : List ℕ) (r : List (List ℕ)) (k c sh : List ℕ) : Type 0 where
  pub accepted : AcceptedGraph g
  pub few : path_count (as_model g) ≤ 4096
  pub numbers : Counts (as_model g) wy
  pub rows : Holds r (beside (as_model g))
  pub kind : g.kind ≡ k
  pub wcet : g.wcet ≡ c
  pub shares : (s : ℕ) → s < g.kinds → get_or sh s 0 ≡ PARTS / get_or g.cores s 0

pub record Laid (g : reader.Graph) (e st : List ℕ) : Type 0 where
  pub order : List ℕ
  pub lists : Weighed g e st order g.n []

abbrev pub cell_of : List (List ℕ) → ℕ → Cell
cell_of l i = record {
  v = get_or (get_or l i []) 0 0;
  base = get_or (get_or l i []) 1 0;
  beside = record { lo = get_or (get_or l i []) 2 0; hi = get_or (get_or l i []) 3 0 };
  value = get_or (get_or l i []) 4 0;
}

abbrev pub cell_words : Cell → List ℕ
cell_words c = c.v ∷ (c.base ∷ (c.beside.lo ∷ (c.beside.hi ∷ (c.value ∷ []))))

abbrev pub Open : Graph → Cell → Type 0
Open G c =
    (k : ℕ) → c.base ≤ k → k < c.base + ways G c.v → (p : List ℕ) → path_within G G.n c.v (k - c.base) ≡ c.v ∷ p
    → second G (path_at G k) ≡ value_from G (is_in c.beside) c.value p

pub record Stands (G : Graph) (i k : ℕ) (c : Cell) : Type 0 where
  pub known : c.v < G.n
  pub deep : i ≤ count (λ u. ancestor G u c.v) G.n
  pub begun : c.base ≤ k
  pub carries : Open G c
  pub small : c.value ≤ 92972880000000 * (i + 1)

pub record Kept (G : Graph) (l : List (List ℕ)) (d k : ℕ) : Type 0 where
  pub size : length l ≡ 128
  pub stands : (i : ℕ) → i < d → Stands G i k (cell_of l i)
  pub has : 0 < d → k < (cell_of l (d - 1)).base + ways G (cell_of l (d - 1)).v

pub record Reached (G : Graph) (l : List (List ℕ)) (d k : ℕ) : Type 0 where
  pub some : 0 < d
  pub kept : Kept G l d k

pub record Ended (G : Graph) (l : List (List ℕ)) (d k : ℕ) : Type 0 where
  pub reached : Reached G l d k
  pub value : second G (path_at G k) ≡ (cell_of l (d - 1)).value

abbrev pub total_of : List ℕ → (ℕ → Bool) → ℕ
total_of c p = sum (λ w. pick (p w) (get_or c w 0) 0) 128

pub record Opened (r : List (List ℕ)) (k c sh : List ℕ) (v base : ℕ) (U : Vset) (x : ℕ) (cell : Cell) : Type 0 where
  pub vertex : cell.v ≡ v
  pub first : cell.base ≡ base
  pub set : Members cell.beside (λ w. is_in U w || is_in (row_of r v) w)
  pub value : cell.value ≡ x + (get_or c v 0 * PARTS + total_of c (λ w. is_in (row_of r v) w && not (is_in U w)) * get_or sh (get_or k v 0) 0)

pub record Chosen (e st wy : List ℕ) (u first k : ℕ) (s : Step) : Type 0 where
  pub place : ℕ
  pub within : place < many st u
  pub vertex : s.v ≡ nth e st u place
  pub base : s.base ≡ first + sum (λ j. get_or wy (nth e st u j) 0) place
  pub low : s.base ≤ k
  pub high : k < s.base + get_or wy s.v 0

pub record Begun (w wy : List ℕ) (n k : ℕ) (s : Step) : Type 0 where
  pub known : s.v < n
  pub is_source : eqb (get_or w s.v 0) 0 ≡ true
  pub base : s.base ≡ sum (from_source_of w wy) s.v
  pub low : s.base ≤ k
  pub high : k < s.base + get_or wy s.v 0
