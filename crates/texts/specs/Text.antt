-- For our own layers alone: no contract for callers and no claim cites this file.
--
-- A text, as docs/BOARD.md has it: `t` is its bytes. Past its end it goes on with line feeds, so that each line and each word has an end.
--
--   byte_at t i        the byte at place i
--   is_blank b         a byte that parts words: space, tab, carriage return
--   ends b            a byte that ends a word: a blank, a line feed, `#`
--   strange b         a byte that is no text
--   stops w b         whether a search for w stops at byte b: for a line feed, for anything but a blank, for what ends a word, for a byte that is no
--                     text, for a byte 0
--   until w t i       the first place from i on that a search for w stops at; the text's end where there is none
--   line_after t i     where the line after that of place i begins
--   part_of t i j      the bytes from place i up to place j; none where the text does not have them
--   word_at t i        the word that stands at place i
--   word_after t i     where the line's next word begins, after the one at place i
--   same a b          whether two words are equal
--   is_named_of t l w k   whether name k of the list l is the word w: the list has the places of the text at which the names stand
--   which_name t l n w which of the first n names of the list l is the word w; n where none is
--   below n k          the number k where it is below n
--   is_digit b         a decimal digit
--   decimal w n       the number that the first n bytes of w are, as decimal digits
--   narrow n          the number n where it has 32 bits
--   grown n b         the number n with the digit that byte b is more, where it has 32 bits
--   number_of w        the number that the word w is, where it is one and has 32 bits
use Rattle.std.specs.Prelude.{Bool, not, ◌&&◌, ◌||◌, List, [], ℕ, zero, suc, ◌+◌, ◌-◌, ◌*◌, min, length, Option, Some, None, Result, Ok, Err, get_or, take, drop, eqb, leb, ltb}
use Rattle.std.specs.List.{list_all}
use Rattle.texts.specs.declared.Sought.{Sought}
use Rattle.texts.specs.declared.Sought.TheVariants.{Line, Word, End, Strange, Zero}
use Rattle.texts.specs.declared.NumberError.{NumberError}
use Rattle.texts.specs.declared.NumberError.TheVariants.{NotDigits, TooLarge}
use Rattle.model.specs.Places.{pick, first, every}

abbrev pub byte_at : List ℕ → ℕ → ℕ
byte_at t i = get_or t i 10

abbrev pub is_blank : ℕ → Bool
is_blank b = (eqb b 32 || eqb b 9) || eqb b 13

abbrev pub ends : ℕ → Bool
ends b = (is_blank b || eqb b 10) || eqb b 35

abbrev pub strange : ℕ → Bool
strange b = ((ltb b 32 && not (is_blank b)) && not (eqb b 10)) || eqb b 127

abbrev pub stops : Sought → ℕ → Bool
stops Line b = eqb b 10
stops Word b = not (is_blank b)
stops End b = ends b
stops Strange b = strange b
stops Zero b = eqb b 0

abbrev pub until : Sought → List ℕ → ℕ → ℕ
until w t i = i + first (λ k. stops w (byte_at t (i + k))) (length t - i)

abbrev pub line_after : List ℕ → ℕ → ℕ
line_after t i = min (until Line t i + 1) (length t)

unfoldable pub part_of : List ℕ → ℕ → ℕ → List ℕ
part_of t i j = pick (leb i j && leb j (length t)) (take (j - i) (drop i t)) []

abbrev pub word_at : List ℕ → ℕ → List ℕ
word_at t i = part_of t i (until End t i)

abbrev pub word_after : List ℕ → ℕ → ℕ
word_after t i = until Word t (until End t i)

unfoldable pub same : List ℕ → List ℕ → Bool
same a b = eqb (length a) (length b) && every (λ i. eqb (get_or a i 0) (get_or b i 0)) (length a)

abbrev pub is_named_of : List ℕ → List ℕ → List ℕ → ℕ → Bool
is_named_of t l w k = ltb k (length l) && same (word_at t (get_or l k 0)) w

abbrev pub which_name : List ℕ → List ℕ → ℕ → List ℕ → ℕ
which_name t l n w = first (is_named_of t l w) n

abbrev pub below : ℕ → ℕ → Option ℕ
below n k = pick (ltb k n) (Some k) None

abbrev pub is_digit : ℕ → Bool
is_digit b = leb 48 b && leb b 57

unfoldable pub decimal : List ℕ → ℕ → ℕ
decimal w zero = 0
decimal w (suc n) = decimal w n * 10 + (get_or w n 0 - 48)

abbrev pub narrow : ℕ → Option ℕ
narrow n = below 4294967296 n

abbrev pub grown : ℕ → ℕ → Option ℕ
grown n b = narrow (n * 10 + (b - 48))

unfoldable pub number_of : List ℕ → Result ℕ NumberError
number_of w =
    pick (list_all is_digit w && not (eqb (length w) 0))
    (pick (ltb (decimal w (length w)) 4294967296) (Ok (decimal w (length w))) (Err TooLarge))
    (Err NotDigits)
