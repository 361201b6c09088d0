-- For our own layers alone: no contract for callers and no claim cites this file.
--
-- The lines of a board text, as docs/BOARD.md has them: `t` is its bytes. What the stages name is looked up later. Faults are those of
-- `faults/specs/Faults`, and `KindTwice` and `StageTwice`, a second type or stage of a name, `KindMany` and `StageMany`, one type or stage too many.
--
--   nameless             the names of a graph file, which has none
--   with_kind_of n i e       the names n with one type more, whose name stands from place i up to place e; with_stage_of, the same with a stage
--   flawed n e           the fault e, with the names n beside it
--   beside n r           what r has; where r is a fault, that with the names n beside it
--   flawed_by n r        the names n; where r is a fault, that with the names n beside it
--   kind_line_of t n i       the names n with those of the line `cores NAME NUMBER` at place i; or what is wrong with it, and the names found before: n,
--                        with this one too where only what follows it is at fault
--   stage_line_of t n i      the same of the line `NAME TYPE WCET ..` at place i
--   worded_line_of t n i    the same of whichever line has its first word at place i
--   line_of t n i         the same of whichever line begins at place i: one without a word says nothing
--   lines_up_to t i        the names of the lines that begin below place i, or the fault of the first that has one, and the names found before
--   board_of t            the names of a text, or the first thing wrong with it and the names found before
use Rattle.std.specs.Prelude.{List, [], ◌∷◌, ℕ, zero, suc, ◌+◌, length, set, replicate, leb, Result, Ok, Err}
use Rattle.model.specs.Places.{pick}
use Rattle.texts.specs.declared.Sought.TheVariants.{Word, End}
use Rattle.texts.specs.Text.{byte_at, ends, until, word_at, word_after, same}
use Rattle.faults.specs.declared.Fault.{Fault}
use Rattle.faults.specs.declared.Wrong.TheVariants.{KindTwice, StageTwice, KindMany, StageMany, Missing}
use Rattle.faults.specs.Faults.{fault, then, begins, text_fault, name_fault, alone_fault, stage_fault}
use Rattle.board.specs.declared.Names.{Names}
use Rattle.board.specs.declared.Flawed.{Flawed}

abbrev pub nameless : Names
nameless = record { kinds = 0; stages = 0; kind = replicate 10 0; kind_end = replicate 10 0; stage = replicate 128 0; stage_end = replicate 128 0 }

unfoldable pub with_kind_of : Names → ℕ → ℕ → Names
with_kind_of n i e = record {
  kinds = n.kinds + 1;
  stages = n.stages;
  kind = set n.kind n.kinds i;
  kind_end = set n.kind_end n.kinds e;
  stage = n.stage;
  stage_end = n.stage_end;
}

unfoldable pub with_stage_of : Names → ℕ → ℕ → Names
with_stage_of n i e = record {
  kinds = n.kinds;
  stages = n.stages + 1;
  kind = n.kind;
  kind_end = n.kind_end;
  stage = set n.stage n.stages i;
  stage_end = set n.stage_end n.stages e;
}

abbrev pub flawed : Names → Fault → Flawed
flawed n e = record { fault = e; names = n }

abbrev pub beside : {A : Type 0} → Names → Result A Fault → Result A Flawed
beside n (Ok x) = Ok x
beside n (Err e) = Err (flawed n e)

abbrev pub flawed_by : Names → Result (Unit {0}) Fault → Result Names Flawed
flawed_by n (Ok _) = Ok n
flawed_by n (Err e) = Err (flawed n e)

unfoldable pub kind_line_of : List ℕ → Names → ℕ → Result Names Flawed
kind_line_of t n i =
    pick (ends (byte_at t (word_after t i))) (Err (flawed n (fault Missing i)))
    (then (beside n (name_fault t (word_after t i) n.kind n.kinds KindTwice))
    (λ _. pick (leb 10 n.kinds) (Err (flawed n (fault KindMany (word_after t i))))
    (then (beside (with_kind_of n (word_after t i) (until End t (word_after t i))) (alone_fault t (word_after t i) 255))
    (λ _. Ok (with_kind_of n (word_after t i) (until End t (word_after t i)))))))

unfoldable pub stage_line_of : List ℕ → Names → ℕ → Result Names Flawed
stage_line_of t n i =
    then (beside n (name_fault t i n.stage n.stages StageTwice))
    (λ _. pick (leb 128 n.stages) (Err (flawed n (fault StageMany i)))
    (then (beside (with_stage_of n i (until End t i)) (stage_fault t i)) (λ _. Ok (with_stage_of n i (until End t i)))))

-- the word `cores`
abbrev pub CORES : List ℕ
CORES = 99 ∷ (111 ∷ (114 ∷ (101 ∷ (115 ∷ []))))

abbrev pub worded_line_of : List ℕ → Names → ℕ → Result Names Flawed
worded_line_of t n i = pick (same (word_at t i) CORES) (kind_line_of t n i) (stage_line_of t n i)

unfoldable pub line_of : List ℕ → Names → ℕ → Result Names Flawed
line_of t n i =
    pick (ends (byte_at t (until Word t i))) (Ok n) (worded_line_of t n (until Word t i))

unfoldable pub lines_up_to : List ℕ → ℕ → Result Names Flawed
lines_up_to t zero = Ok nameless
lines_up_to t (suc i) = then (lines_up_to t i) (λ n. pick (begins t i) (line_of t n i) (Ok n))

unfoldable pub board_of : List ℕ → Result Names Flawed
board_of t = then (beside nameless (text_fault t)) (λ _. lines_up_to t (length t))
