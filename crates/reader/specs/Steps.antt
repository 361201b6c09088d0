-- For our own layers alone: no contract for callers and no claim cites this file.
--
-- What the parts of the reader give each other.
--
--   Quiet s              no number from 2 to 10 holds for any place
--   Faultless s c        the same, and c holds how many records there are of each kind
--   lowest_in_of s       the lowest number from 2 to 10 that applies, with its place; or none
--   Found s r            r is that, and where there is none the counts
--   Listed s e st        e are the edges of the file's graph, and st their starts
--   Drawn s l            l has the edges, their starts and the rows of predecessors, and nothing else yet
--   Tested s r l         r is whether the edges hold a cycle; l has them, and where they hold none the order
--   Edged s c l          what is known of an accepted file: the counts, the edges, their starts, an order along them, and the rows
use Rattle.std.specs.Prelude.{◌≡◌, Bool, false, List, ℕ, ◌≤◌, ◌<◌, ltb, replicate, Result, Ok}
use Rattle.model.specs.Places.{pick, table}
use Rattle.model.specs.Cycle.{cyclic}
use Rattle.graph.specs.Answer.{Answer, Accepted, Refused, answered}
use Rattle.graph.specs.File.{many, graph_of}
use Rattle.graph.specs.Model.{as_model}
use Rattle.graph.specs.Rules.{holds, places}
use Rattle.graph.specs.Judge.{place_of, lowest}
use Rattle.graph.specs.declared.Refusal.{Refusal}
use Rattle.records.specs.Passing.{Counted}
use Rattle.records.specs.declared.Counts.{Counts}
use Rattle.starts.specs.Starts.{first_edge, Ordered}
use Rattle.sets.specs.Sets.{Holds}
use Rattle.rows.specs.Rows.{predecessor}
use Rattle.reader.specs.declared.Laid.{Laid}

abbrev pub Quiet : List ℕ → Type 0
Quiet s = (num : ℕ) → 2 ≤ num → num < 11 → (k : ℕ) → k < places s num → holds s num k ≡ false

pub record Faultless (s : List ℕ) (c : Counts) : Type 0 where
  pub counted : Counted s c
  pub quiet : Quiet s

unfoldable pub lowest_in_of : List ℕ → Answer
lowest_in_of s = pick (ltb (lowest 2 s) 11) (Refused (record { number = lowest 2 s; place = place_of s (lowest 2 s) })) Accepted

pub record Found (s : List ℕ) (r : Result Counts Refusal) : Type 0 where
  pub answer : answered r ≡ lowest_in_of s
  pub counted : (c : Counts) → r ≡ Ok c → Counted s c

pub record Listed (s e st : List ℕ) : Type 0 where
  pub edge : e ≡ (graph_of s).edge
  pub starts : st ≡ table (first_edge (graph_of s)) 129

pub record Drawn (s : List ℕ) (l : Laid) : Type 0 where
  pub listed : Listed s l.graph.edge l.starts
  pub rows : Holds l.pred (predecessor (graph_of s).edge (many s 2))
  pub cores_zero : l.graph.cores ≡ replicate 10 0
  pub kind_zero : l.graph.kind ≡ replicate 128 0
  pub wcet_zero : l.graph.wcet ≡ replicate 128 0

pub record Tested (s : List ℕ) (r : Bool) (l : Laid) : Type 0 where
  pub cycle : r ≡ cyclic (as_model (graph_of s))
  pub drawn : Drawn s l
  pub order : r ≡ false → Ordered (graph_of s).edge (many s 2) (many s 1) l.order

pub record Edged (s : List ℕ) (c : Counts) (l : Laid) : Type 0 where
  pub counted : Counted s c
  pub drawn : Drawn s l
  pub order : Ordered (graph_of s).edge (many s 2) (many s 1) l.order
