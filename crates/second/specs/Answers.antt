-- What the entry of order 4 gives for a file s.
--
--   too_many_paths           more than 4,096 complete paths: 17 at 0
--   SecondIn G r      of the graph G: 17 exactly where it has more than 4,096 complete paths, else NEW-B-2; beside a refusal 0
--   SecondOf s r      the answer of `second`: the reader's refusal, or that
use Rattle.std.specs.Prelude.{◌≡◌, List, ℕ, ◌≤◌, ◌<◌}
use Rattle.model.specs.Graph.{Graph}
use Rattle.model.specs.Second.{NewB2}
use Rattle.model.specs.PathCount.{path_count}
use Rattle.graph.specs.Model.{as_model}
use Rattle.graph.specs.Judge.{read_of}
use Rattle.graph.specs.declared.Refusal.{Refusal}
use Rattle.graph.specs.Answer.{Accepted, Refused}
use Rattle.second.specs.Seconded.{Seconded}

abbrev pub too_many_paths : Refusal
too_many_paths = record { number = 17; place = 0 }

pub data SecondIn (G : Graph) (r : Seconded) : Type 0 where
  too_many : 4096 < path_count G → r.answer ≡ Refused too_many_paths → r.parts.0 ≡ 0 → SecondIn G r
  found : path_count G ≤ 4096 → r.answer ≡ Accepted → NewB2 G r.parts.0 → SecondIn G r

pub data SecondOf (s : List ℕ) (r : Seconded) : Type 0 where
  refused : {x : Refusal} → (read_of s).answer ≡ Refused x → r.answer ≡ Refused x → r.parts.0 ≡ 0 → SecondOf s r
  accepted : (read_of s).answer ≡ Accepted → SecondIn (as_model (read_of s).graph) r → SecondOf s r
