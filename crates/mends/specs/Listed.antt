-- The list of what was done (order 12): "8-byte records: that byte, the old record number in two bytes low first, five zero bytes; ordered
-- by record number, then C, D, X, M".
--
--   letter m         the mend's byte: C, D, X, M
--   turn m           the letter's place among the four
--   entry m k        the list's record for the mend m of record k
--   entry_if s m k    that record where the mend is done, else nothing
--   entries s k      all that is done to record k
--   list_up_to s n     all that is done to the first n records
--   list_of s         the whole list
--   Says s e m k     record e of the list is that for the mend m of record k
--   Before k m i n   the mend m of record k is listed before the mend n of record i: by record number, then C, D, X, M
use Rattle.std.specs.Prelude.{◌≡◌, ◌⊎◌, List, [], ◌∷◌, ◌++◌, ℕ, zero, suc, ◌/◌, ◌%◌, ◌<◌, get_or}
use Rattle.model.specs.Places.{pick}
use Rattle.graph.specs.File.{records, byte_at}
use Rattle.mends.specs.Mends.{Mend, clear, drop_loop, drop_double, move, due}

abbrev pub letter : Mend → ℕ
letter clear = 0x43
letter drop_loop = 0x44
letter drop_double = 0x58
letter move = 0x4D

abbrev pub turn : Mend → ℕ
turn clear = 0
turn drop_loop = 1
turn drop_double = 2
turn move = 3

abbrev pub entry : Mend → ℕ → List ℕ
entry m k = letter m ∷ k % 256 ∷ k / 256 ∷ 0 ∷ 0 ∷ 0 ∷ 0 ∷ 0 ∷ []

unfoldable pub entry_if : List ℕ → Mend → ℕ → List ℕ
entry_if s m k = pick (due s m k) (entry m k) []

unfoldable pub entries : List ℕ → ℕ → List ℕ
entries s k = entry_if s clear k ++ (entry_if s drop_loop k ++ (entry_if s drop_double k ++ entry_if s move k))

unfoldable pub list_up_to : List ℕ → ℕ → List ℕ
list_up_to s zero = []
list_up_to s (suc k) = list_up_to s k ++ entries s k

unfoldable pub list_of : List ℕ → List ℕ
list_of s = list_up_to s (records s)

abbrev pub Says : List ℕ → ℕ → Mend → ℕ → Type 0
Says s e m k = (j : ℕ) → j < 8 → byte_at (list_of s) e j ≡ get_or (entry m k) j 0

abbrev pub Before : ℕ → Mend → ℕ → Mend → Type 0
Before k m i n = (k < i) ⊎ ((k ≡ i) × (turn m < turn n))
