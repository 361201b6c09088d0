-- What an entry says, in document 01's words: a file is accepted, or refused with a number and a place.
--
--   Answer        accepted, or refused, with nothing beside it
--   answered r    what r says, whatever stands beside it
--   at_0 num      the refusal of a number that is said of no record, vertex or instant
--   Taken         the reader's answer and the graph beside it
--   taken r       what `read` gives, as that: beside a refusal the graph is zero throughout
use Rattle.std.specs.Prelude.{ℕ, ⊤, Result, Ok, Err}
use Rattle.graph.specs.File.{no_graph_of}
use Rattle.graph.specs.declared.Refusal.{Refusal}
use Rattle.graph.specs.declared.Graph.{Graph}

abbrev pub Answer : Type 0
Answer = Result ⊤ Refusal

abbrev pub Accepted : Answer
Accepted = Ok tt

abbrev pub Refused : Refusal → Answer
Refused r = Err r

abbrev pub answered : {A : Type 0} → Result A Refusal → Answer
answered (Ok x) = Accepted
answered (Err r) = Refused r

abbrev pub at_0 : ℕ → Refusal
at_0 number = record { number = number; place = 0 }

pub record Taken : Type 0 where
  pub answer : Answer
  pub graph : Graph

abbrev pub taken : Result Graph Refusal → Taken
taken (Ok g) = record { answer = Accepted; graph = g }
taken (Err r) = record { answer = Refused r; graph = no_graph_of }
