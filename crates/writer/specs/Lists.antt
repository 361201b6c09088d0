-- The lists that the writer takes (document 01: "cores (a byte each), vertex types (a byte each), WCETs (32 bits each) and
-- edges (16 bits, from × 256 + to)"), beside the reader's value.
--
--   Lists              a graph's four lists
--   lists_in h          the lists that the reader's value h holds: each as long as its count says
--   lists_of s          the lists that the file s holds
--   filled l xs        the list xs with zeros up to the length l
--   graph_from g        the reader's value that holds the lists g, unused places zero
use Rattle.std.specs.Prelude.{List, ◌++◌, ℕ, ◌-◌, length, take, replicate}
use Rattle.graph.specs.File.{graph_of}
use Rattle.graph.specs.declared.Graph.{Graph}

pub record Lists : Type 0 where
  pub cores : List ℕ
  pub kinds : List ℕ
  pub wcets : List ℕ
  pub edges : List ℕ

abbrev pub lists : List ℕ → List ℕ → List ℕ → List ℕ → Lists
lists cores kinds wcets edges = record { cores = cores; kinds = kinds; wcets = wcets; edges = edges }

unfoldable pub lists_in : Graph → Lists
lists_in h = record {
  cores = take h.kinds h.cores;
  kinds = take h.n h.kind;
  wcets = take h.n h.wcet;
  edges = take h.edges h.edge;
}

unfoldable pub lists_of : List ℕ → Lists
lists_of s = lists_in (graph_of s)

unfoldable pub filled : ℕ → List ℕ → List ℕ
filled l xs = xs ++ replicate (l - length xs) 0

unfoldable pub graph_from : Lists → Graph
graph_from g = record {
  kinds = length g.cores;
  n = length g.kinds;
  edges = length g.edges;
  cores = filled 10 g.cores;
  kind = filled 128 g.kinds;
  wcet = filled 128 g.wcets;
  edge = filled 1024 g.edges;
}
