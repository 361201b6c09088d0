-- A table with a set for each of the numbers below 128: a row of two words.
--
--   row_of t v       the set in row v of the table t
--   words_of s       the row of a set
--   empty           the table of empty rows
--   Table t         t has 128 rows of two words
--   Holds t p       in row v of the table t are those w with p v w
--   joined t v k    the table t with k put into row v
use Rattle.std.specs.Prelude.{◌≡◌, Bool, ◌||◌, List, [], ◌∷◌, ℕ, ◌^◌, ◌<◌, get_or, length, set, replicate, eqb}
use Rattle.vset.specs.Members.{is_in, set_of}
use Rattle.vset.specs.declared.Vset.{Vset}

abbrev pub row_of : List (List ℕ) → ℕ → Vset
row_of t v = record { lo = get_or (get_or t v []) 0 0; hi = get_or (get_or t v []) 1 0 }

abbrev pub words_of : Vset → List ℕ
words_of s = s.lo ∷ (s.hi ∷ [])

abbrev pub empty : List (List ℕ)
empty = replicate 128 (replicate 2 0)

pub record Table (t : List (List ℕ)) : Type 0 where
  pub size : length t ≡ 128
  pub row : (v : ℕ) → v < 128 → get_or t v [] ≡ words_of (row_of t v)
  pub low : (v : ℕ) → v < 128 → (row_of t v).lo < 2 ^ 64
  pub high : (v : ℕ) → v < 128 → (row_of t v).hi < 2 ^ 64

pub record Holds (t : List (List ℕ)) (p : ℕ → ℕ → Bool) : Type 0 where
  pub table : Table t
  pub row : (v w : ℕ) → v < 128 → is_in (row_of t v) w ≡ p v w

unfoldable pub joined : List (List ℕ) → ℕ → ℕ → List (List ℕ)
joined t v k = set t v (words_of (set_of (λ j. is_in (row_of t v) j || eqb j k)))
