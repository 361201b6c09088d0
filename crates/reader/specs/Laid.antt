-- For our own layers alone: no contract for callers and no claim cites this file.
--
-- The graph of a file where it is lent, and what goes along it: where each vertex's edges begin, an order of the vertices along the edges, and
-- each vertex's predecessors as rows.
--
--   Blank l            what is lent before anything stands in it
--   Along g st o       st are the starts of the edges of g, and o is an order along them
--   LaidOut g l        l holds the graph g and what goes along it
--   TakenInto s r l    r is the reader's answer for the file s, and where the file is accepted l holds its graph
--   RowsInto s p       where the file is accepted, the table p has each vertex's predecessors
--   KinInto s p a      the same, and the table a its ancestors
--   Usable l           what l holds is an accepted graph
--   on_cores l c       l with other numbers of cores, c
use Rattle.std.specs.Prelude.{◌≡◌, List, ℕ, length}
use Rattle.model.specs.Places.{table}
use Rattle.graph.specs.File.{no_graph_of}
use Rattle.graph.specs.Answer.{Answer, Accepted}
use Rattle.graph.specs.Judge.{read_of}
use Rattle.graph.specs.Model.{AcceptedGraph}
use Rattle.graph.specs.declared.Graph.{Graph}
use Rattle.graph.specs.declared.Refusal.{Refusal}
use Rattle.starts.specs.Starts.{first_edge, Ordered}
use Rattle.sets.specs.Sets.{empty, Holds}
use Rattle.rows.specs.Rows.{predecessor, Kin}
use Rattle.reader.specs.declared.Laid.{Laid}

pub record Blank (l : Laid) : Type 0 where
  pub graph : l.graph ≡ no_graph_of
  pub order : length l.order ≡ 128
  pub pred : l.pred ≡ empty

pub record Along (g : Graph) (st o : List ℕ) : Type 0 where
  pub starts : st ≡ table (first_edge g) 129
  pub order : Ordered g.edge g.edges g.n o

pub record LaidOut (g : Graph) (l : Laid) : Type 0 where
  pub graph : l.graph ≡ g
  pub along : Along g l.starts l.order
  pub rows : Holds l.pred (predecessor g.edge g.edges)

pub record TakenInto (s : List ℕ) (r : Answer) (l : Laid) : Type 0 where
  pub answer : r ≡ (read_of s).answer
  pub laid : (read_of s).answer ≡ Accepted → LaidOut (read_of s).graph l

abbrev pub RowsInto : List ℕ → List (List ℕ) → Type 0
RowsInto s p = (read_of s).answer ≡ Accepted → Holds p (predecessor (read_of s).graph.edge (read_of s).graph.edges)

abbrev pub KinInto : List ℕ → List (List ℕ) → List (List ℕ) → Type 0
KinInto s p a = (read_of s).answer ≡ Accepted → Kin (read_of s).graph p a

pub record Usable (l : Laid) : Type 0 where
  pub accepted : AcceptedGraph l.graph
  pub along : Along l.graph l.starts l.order
  pub rows : Holds l.pred (predecessor l.graph.edge l.graph.edges)

-- the same with other numbers of cores
abbrev pub on_cores : Laid → List ℕ → Laid
on_cores l c =
    record { graph = record { kinds = l.graph.kinds; n = l.graph.n; edges = l.graph.edges; cores = c; kind = l.graph.kind; wcet = l.graph.wcet; edge = l.graph.edge }; starts = l.starts; order = l.order; pred = l.pred }
