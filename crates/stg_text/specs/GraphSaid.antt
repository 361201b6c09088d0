-- That a record file is that of the graph which a text says (order 9), with the lent cores and kinds.
--
--   GraphSaid t cores kinds f    the file f is accepted, and its graph has the lent cores and kinds, a vertex for each task of the text t, each
--                                task's time, and an edge from u to v where u is a predecessor of task v
use Rattle.std.specs.Prelude.{◌≡◌, List, ℕ, ◌+◌, ◌<◌}
use Rattle.graph.specs.Judge.{read_of}
use Rattle.graph.specs.Model.{as_model}
use Rattle.graph.specs.Answer.{Accepted}
use Rattle.writer.specs.Lists.{lists_in}
use Rattle.stg_text.specs.Fields.{member}
use Rattle.stg_text.specs.Layout.{tasks}
use Rattle.stg_text.specs.Says.{time_of, before_of}

pub record GraphSaid (t cores kinds f : List ℕ) : Type 0 where
  pub accepted : (read_of f).answer ≡ Accepted
  pub lent_cores : (lists_in (read_of f).graph).cores ≡ cores
  pub lent_kinds : (lists_in (read_of f).graph).kinds ≡ kinds
  pub vertices : (read_of f).graph.n ≡ tasks t + 2
  pub times : (v : ℕ) → v < tasks t + 2 → (as_model (read_of f).graph).wcet v ≡ time_of t v
  pub edges : (u v : ℕ) → u < tasks t + 2 → v < tasks t + 2 → (as_model (read_of f).graph).edge u v ≡ member u (before_of t v)
