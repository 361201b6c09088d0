-- What the three demands are said with, beside what the entries give (Entries), their own definitions and the model's.
--
--   Bytes s                    every place of the list s is a byte
--   IsAccepted s               the reader accepts the file s
--   graph_in s                  the model's graph of the file s, which is accepted
--   drawn_in s                  the model's graph that the records of a file give, accepted or not
--   schedule s e               the list schedule of the file's graph with the times e
--   run_at s e t                the record of that schedule's state at the instant t
--   NoneFrom a b s             no row of document 01's table, from number a up to b - 1, holds for any place of the file
--   Closed G                   the edges of G hold a cycle: a walk from a vertex to itself
--   Answered s t               the reader's answer: it accepts, where no number applies; or it says no with the lowest number that applies
--                              and the first place it holds for, and the graph beside it is zero throughout
--   Sound s                    what an accepted file is, in the model's words
--   WriteAnswered g old w new  the writer's answer: 13, then 4 to 11, with the places that the records would have had, then 15; each leaves
--                              the room as it was. Else the file, and past it what stood there
--   PathLent s old new n       the list new, which was old, begins with the n vertices of the file's path and is otherwise as it was
--   GainsLent G old new n      the list new, which was old, has the gain of each vertex of G, n of them, in its first places, and is otherwise
--                              as it was
--   RunLent s e old new F      F is the finish of the file's list schedule; the list new, which was old, has each vertex's finish instant in
--                              its first N places, and is otherwise as it was
--   TimesLent s l old new      the list new, which was old, has in its first N places how long each vertex ran in the log l, and is otherwise
--                              as it was
--   MendAnswered s old list m new list'
--                              the answer of `mend`: 1 at 0; else 2 at the first record of an unknown kind; else 3 at the first that comes after
--                              one of a later kind; else 15 at 0, where the mended buffer is shorter than the file or the list's has under 16
--                              bytes for each record. Each leaves both buffers as they were. Else how long the mended file and the list are, which
--                              stand in front of what stood there
use Rattle.std.specs.Prelude.{◌≡◌, ◌⊎◌, true, false, List, ◌++◌, ℕ, ◌*◌, ◌≤◌, ◌<◌, get_or, length, drop}
use Rattle.model.specs.Graph.{Graph}
use Rattle.model.specs.Cycle.{Walk, Acyclic}
use Rattle.model.specs.Bounds.{ThePath}
use Rattle.model.specs.Gain.{GainOf}
use Rattle.model.specs.Schedule.{Schedule, FinishOf, Finish}
use Rattle.model.specs.ListSchedule.{begin, steps, list_schedule}
use Rattle.graph.specs.File.{records, graph_of, no_graph_of}
use Rattle.graph.specs.Model.{as_model}
use Rattle.graph.specs.Rules.{holds, places, rule1, rule3}
use Rattle.graph.specs.Judge.{read_of, Rightly}
use Rattle.graph.specs.declared.Refusal.{Refusal}
use Rattle.graph.specs.Answer.{Taken}
use Rattle.graph.specs.Answer.{Accepted, Refused}
use Rattle.writer.specs.Lists.{Lists}
use Rattle.writer.specs.Write.{file_of}
use Rattle.writer.specs.Wrote.{Wrote}
use Rattle.writer.specs.Wrote.{Bytes as Wrote-bytes, Refused as NotWritten}
use Rattle.mends.specs.Mended.{mended_of}
use Rattle.mends.specs.Listed.{list_of}
use Rattle.mends.specs.Answers.{unknown, Mendable}
use Rattle.mends.specs.Answers.{Mended}
use Rattle.mends.specs.Answers.{Lengths, Refused as NotMended}
use Rattle.tick.specs.Run.{record_for}
use Rattle.tick.specs.declared.Run.{Run}
use Rattle.times.specs.Times.{times_of}
use Rattle.recorded.specs.Recorded.{schedule_of}

abbrev pub Bytes : List ℕ → Type 0
Bytes s = (i : ℕ) → get_or s i 0 < 256

abbrev pub IsAccepted : List ℕ → Type 0
IsAccepted s = (read_of s).answer ≡ Accepted

abbrev pub graph_in : List ℕ → Graph
graph_in s = as_model (read_of s).graph

abbrev pub drawn_in : List ℕ → Graph
drawn_in s = as_model (graph_of s)

abbrev pub schedule : List ℕ → List ℕ → Schedule
schedule s e = list_schedule (graph_in s) (times_of e)

abbrev pub run_at : List ℕ → List ℕ → ℕ → Run
run_at s e t = record_for (graph_in s) t (steps (graph_in s) t (begin (times_of e)))

-- the refusal of a number at place 0
abbrev pub at_0 : ℕ → Refusal
at_0 number = record { number = number; place = 0 }

abbrev pub NoneFrom : ℕ → ℕ → List ℕ → Type 0
NoneFrom a b s = (num k : ℕ) → a ≤ num → num < b → k < places s num → holds s num k ≡ false

abbrev pub Closed : Graph → Type 0
Closed G = (v : ℕ) × Walk G v v

pub data Answered (s : List ℕ) (t : Taken) : Type 0 where
  taken : t.answer ≡ Accepted → NoneFrom 1 12 s → t.graph ≡ graph_of s → Answered s t
  refused : {r : Refusal} → t.answer ≡ Refused r → Rightly 1 s r → t.graph ≡ no_graph_of → Answered s t

pub record Sound (s : List ℕ) : Type 0 where
  pub in_form : NoneFrom 1 11 s
  pub acyclic : Acyclic (drawn_in s)

pub data WriteAnswered (g : Lists) (old : List ℕ) : Wrote → List ℕ → Type 0 where
  unlike : (length g.kinds ≡ length g.wcets → ⊥) → WriteAnswered g old (NotWritten (at_0 13)) old
  refused : {r : Refusal} → length g.kinds ≡ length g.wcets → Rightly 4 (file_of g) r → WriteAnswered g old (NotWritten r) old
  narrow : length g.kinds ≡ length g.wcets → NoneFrom 4 12 (file_of g) → length old < length (file_of g) → WriteAnswered g old (NotWritten (at_0 15)) old
  wrote : length g.kinds ≡ length g.wcets → NoneFrom 4 12 (file_of g) → length (file_of g) ≤ length old
      → WriteAnswered g old (Wrote-bytes (length (file_of g))) (file_of g ++ drop (length (file_of g)) old)

pub data MendAnswered (s old list : List ℕ) : Mended → List ℕ → List ℕ → Type 0 where
  uneven : rule1 s ≡ true → MendAnswered s old list (NotMended (at_0 1)) old list
  of_no_kind : {k : ℕ} → rule1 s ≡ false → k < records s → unknown s k ≡ true → ((j : ℕ) → j < k → unknown s j ≡ false)
      → MendAnswered s old list (NotMended (record { number = 2; place = k })) old list
  out_of_order : {k : ℕ} → rule1 s ≡ false → ((j : ℕ) → j < records s → unknown s j ≡ false) → k < records s → rule3 s k ≡ true
      → ((j : ℕ) → j < k → rule3 s j ≡ false) → MendAnswered s old list (NotMended (record { number = 3; place = k })) old list
  narrow : Mendable s → (length old < length s) ⊎ (length list < 16 * records s) → MendAnswered s old list (NotMended (at_0 15)) old list
  mended : Mendable s → length s ≤ length old → 16 * records s ≤ length list
      → MendAnswered s old list (Lengths (record { file = length (mended_of s); list = length (list_of s) })) (mended_of s ++ drop (length (mended_of s)) old) (list_of s ++ drop (length (list_of s)) list)

pub record PathLent (s old new : List ℕ) (n : ℕ) : Type 0 where
  pub path : List ℕ
  pub is : ThePath (graph_in s) path
  pub many : n ≡ length path
  pub lent : new ≡ path ++ drop n old

pub record GainsLent (G : Graph) (old new : List ℕ) (n : ℕ) : Type 0 where
  pub many : n ≡ G.n
  pub gain : (v : ℕ) → v < n → GainOf G v (get_or new v 0)
  pub as_long : length new ≡ length old
  pub kept : (i : ℕ) → n ≤ i → get_or new i 0 ≡ get_or old i 0

pub record RunLent (s e old new : List ℕ) (F : ℕ) : Type 0 where
  pub finish : Finish (graph_in s) (schedule s e) F
  pub instants : (v : ℕ) → v < (read_of s).graph.n → FinishOf (graph_in s) (schedule s e) v (get_or new v 0)
  pub as_long : length new ≡ length old
  pub kept : (i : ℕ) → (read_of s).graph.n ≤ i → get_or new i 0 ≡ get_or old i 0

pub record TimesLent (s l old new : List ℕ) : Type 0 where
  pub times : (v : ℕ) → v < (graph_in s).n → get_or new v 0 ≡ (schedule_of l).time v
  pub as_long : length new ≡ length old
  pub kept : (i : ℕ) → (graph_in s).n ≤ i → get_or new i 0 ≡ get_or old i 0
