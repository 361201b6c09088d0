-- For our own layers alone: no contract for callers and no claim cites this file.
--
-- What the lines of a board text say of its types and stages: `t` is its bytes, `n` the names.
--
--   cores_at_of t n k    how many cores type k has
--   kind_at t n v     which type's name stands after that of stage v; so many as there are types where none does
--   wcet_at_of t n v     the number that stands after it
--
--   as_number_of r       the number; 0 where it is too large and 1 where none stands, which no text without a fault has
--
-- Each is 0 where there is no such type or stage, and so far as a record of the file can hold it.
use Rattle.std.specs.Prelude.{List, ℕ, ◌%◌, get_or, ltb, Result, Ok, Err}
use Rattle.model.specs.Places.{pick}
use Rattle.texts.specs.declared.NumberError.{NumberError}
use Rattle.texts.specs.declared.NumberError.TheVariants.{NotDigits, TooLarge}
use Rattle.texts.specs.Text.{word_at, word_after, which_name, number_of}
use Rattle.board.specs.declared.Names.{Names}

abbrev pub as_number_of : Result ℕ NumberError → ℕ
as_number_of (Ok n) = n
as_number_of (Err TooLarge) = 0
as_number_of (Err NotDigits) = 1

abbrev pub cores_at_of : List ℕ → Names → ℕ → ℕ
cores_at_of t n k = pick (ltb k n.kinds) (as_number_of (number_of (word_at t (word_after t (get_or n.kind k 0)))) % 256) 0

abbrev pub kind_at : List ℕ → Names → ℕ → ℕ
kind_at t n v = pick (ltb v n.stages) (which_name t n.kind n.kinds (word_at t (word_after t (get_or n.stage v 0))) % 256) 0

abbrev pub wcet_at_of : List ℕ → Names → ℕ → ℕ
wcet_at_of t n v = pick (ltb v n.stages) (as_number_of (number_of (word_at t (word_after t (word_after t (get_or n.stage v 0)))))) 0
