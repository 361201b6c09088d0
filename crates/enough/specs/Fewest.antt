-- The answer of `enough`, and the number of cores beside it.
--
--   Fewest      the answer, and the smallest number of cores that is enough
--   fewest r    what `enough` gives, as that: beside a refusal the number is 0
use Rattle.std.specs.Prelude.{ℕ, Result, Ok, Err}
use Rattle.graph.specs.Answer.{Answer, Accepted, Refused}
use Rattle.graph.specs.declared.Refusal.{Refusal}

pub record Fewest : Type 0 where
  pub answer : Answer
  pub cores : ℕ

abbrev pub fewest : Result ℕ Refusal → Fewest
fewest (Ok c) = record { answer = Accepted; cores = c }
fewest (Err r) = record { answer = Refused r; cores = 0 }
