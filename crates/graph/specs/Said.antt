-- An answer in document 01's numbers: for each answer that is an enum, what number, place and value each of its cases is. C sees answers so.
--
--   Said            the number, 0 where nothing is refused, and its place; and the value that stands beside it, 0 beside a refusal
--   said_no r        the refusal r
--   of_answer a      an answer that has no value beside it
use Rattle.std.specs.Prelude.{Ok, Err}
use Rattle.std.specs.Prelude.{ℕ}
use Rattle.graph.specs.declared.Refusal.{Refusal}
use Rattle.graph.specs.Answer.{Answer}
use Rattle.graph.specs.Answer.{Accepted, Refused}

pub record Said : Type 0 where
  pub number : ℕ
  pub place : ℕ
  pub value : ℕ

abbrev pub said_no : Refusal → Said
said_no r = record { number = r.number; place = r.place; value = 0 }

abbrev pub of_answer : Answer → Said
of_answer (Ok _) = record { number = 0; place = 0; value = 0 }
of_answer (Err r) = said_no r
