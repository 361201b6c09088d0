-- For our own layers alone: no contract for callers and no claim cites this file.
--
-- What a text gets wrong, as docs/BOARD.md has it: `t` is its bytes. A fault is what is wrong and the place of what it is about. What can be wrong is
-- the enum `Wrong` of `crates/faults/src/lib.rt`.
--
--   fault r i               the fault that r is wrong at place i; fine, that nothing is wrong
--   wrong_number e          what is wrong where a word is no number
--   then r f                what f says of what r has; r's fault where it has one
--   begins t i              whether a line begins at place i
--   long_line t i            whether a line that begins at place i has more than 4,096 bytes
--   line_fault t             the first line that is too long
--   text_fault t             what is wrong with a text as such: its length, its bytes, its lines' lengths
--   at_most m i r            the number that r is, where it is at most m; else what is wrong with the word at place i. A number that 32 bits don't hold
--                           is above each m that they hold, and within each that they don't: then the largest that they hold stands for it
--   number_fault t i m       the word at place i as a number of at most m, or what is wrong with it
--   name_fault t i l n e     what is wrong with the word at place i as a new name beside the first n of the list l: too long, there already (e)
--   alone_fault t i m        what follows the word at place i, a number of at most m and nothing else, or what is wrong with it
--   stage_fault t i          what follows the name of a stage at place i, a type and a WCET, or what is wrong with them
use Rattle.std.specs.Prelude.{Bool, ◌&&◌, ◌||◌, List, ℕ, ◌-◌, length, eqb, ltb, Result, Ok, Err}
use Rattle.model.specs.Places.{pick, first}
use Rattle.texts.specs.declared.Sought.TheVariants.{Line, End, Strange as Unprintable}
use Rattle.texts.specs.declared.NumberError.{NumberError}
use Rattle.texts.specs.declared.NumberError.TheVariants.{NotDigits, TooLarge}
use Rattle.texts.specs.Text.{byte_at, ends, until, word_at, word_after, which_name, number_of}
use Rattle.faults.specs.declared.Fault.{Fault}
use Rattle.faults.specs.declared.Wrong.{Wrong}
use Rattle.faults.specs.declared.Wrong.TheVariants.{TextLong, Strange, LineLong, NameLong, Missing, Extra, NoNumber, Large}

abbrev pub fault : Wrong → ℕ → Fault
fault r i = record { what = r; at = i }

abbrev pub fine : Result (Unit {0}) Fault
fine = Ok tt

abbrev pub wrong_number : NumberError → Wrong
wrong_number NotDigits = NoNumber
wrong_number TooLarge = Large

abbrev pub then : {A B E : Type 0} → Result A E → (A → Result B E) → Result B E
then (Ok x) f = f x
then (Err e) f = Err e

abbrev pub begins : List ℕ → ℕ → Bool
begins t i = eqb i 0 || eqb (byte_at t (i - 1)) 10

abbrev pub long_line : List ℕ → ℕ → Bool
long_line t i = begins t i && ltb 4096 (until Line t i - i)

unfoldable pub line_fault : List ℕ → Result (Unit {0}) Fault
line_fault t = pick (ltb (first (long_line t) (length t)) (length t)) (Err (fault LineLong (first (long_line t) (length t)))) fine

unfoldable pub text_fault : List ℕ → Result (Unit {0}) Fault
text_fault t =
    pick (ltb 65536 (length t)) (Err (fault TextLong 65536))
    (pick (ltb (until Unprintable t 0) (length t)) (Err (fault Strange (until Unprintable t 0))) (line_fault t))

abbrev pub at_most : ℕ → ℕ → Result ℕ NumberError → Result ℕ Fault
at_most m i (Ok n) = pick (ltb m n) (Err (fault Large i)) (Ok n)
at_most m i (Err TooLarge) = pick (ltb 4294967295 m) (Ok 4294967295) (Err (fault Large i))
at_most m i (Err NotDigits) = Err (fault NoNumber i)

abbrev pub number_fault : List ℕ → ℕ → ℕ → Result ℕ Fault
number_fault t i m = at_most m i (number_of (word_at t i))

unfoldable pub name_fault : List ℕ → ℕ → List ℕ → ℕ → Wrong → Result (Unit {0}) Fault
name_fault t i l n e =
    pick (ltb 64 (until End t i - i)) (Err (fault NameLong i)) (pick (ltb (which_name t l n (word_at t i)) n) (Err (fault e i)) fine)

unfoldable pub alone_fault : List ℕ → ℕ → ℕ → Result ℕ Fault
alone_fault t i m =
    pick (ends (byte_at t (word_after t i))) (Err (fault Missing i))
    (then (number_fault t (word_after t i) m)
    (λ n. pick (ends (byte_at t (word_after t (word_after t i)))) (Ok n) (Err (fault Extra (word_after t (word_after t i))))))

unfoldable pub stage_fault : List ℕ → ℕ → Result ℕ Fault
stage_fault t i =
    pick (ends (byte_at t (word_after t i))) (Err (fault Missing i))
    (pick (ends (byte_at t (word_after t (word_after t i)))) (Err (fault Missing (word_after t i)))
    (number_fault t (word_after t (word_after t i)) 4294967295))
