-- What `read` gives is told by its answer and the graph beside it.
use Rattle.std.specs.Prelude.{◌≡◌, Result, Ok, Err}
use mathlib.Core.Path.{ap}
use Rattle.graph.specs.Answer.{Answer, Accepted, Refused, answered, Taken, taken}
use Rattle.graph.specs.declared.Graph.{Graph}
use Rattle.graph.specs.declared.Refusal.{Refusal}

pub taken-one : (x y : Result Graph Refusal) → taken x ≡ taken y → x ≡ y
taken-one (Ok g) (Ok h) e = ap Ok (ap (λ (t : Taken). t.graph) e)
taken-one (Ok g) (Err r) e = let q : Accepted ≡ Refused r = ap (λ (t : Taken). t.answer) e in cc
taken-one (Err r) (Ok g) e = let q : Refused r ≡ Accepted = ap (λ (t : Taken). t.answer) e in cc
taken-one (Err r) (Err q) e = let z : Refused r ≡ Refused q = ap (λ (t : Taken). t.answer) e in cc
