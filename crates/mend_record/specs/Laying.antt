-- For our own layers alone: no contract for callers and no claim cites this file.
--
-- How a record and what is done to it come into a lent buffer.
--
--   over old at r        old with the bytes r laid over it from at on
--   put old at r on      the same where on holds, else old
--   Held l old b         b holds the list l, and past it what old held
--   entry_bytes c k       a record of the list, with the letter c
--   fate_of s k           what is done to record k
--   notes old n k f      old with what is done to record k noted from n on
use Rattle.std.specs.Prelude.{◌≡◌, Bool, List, [], ◌∷◌, ◌++◌, ℕ, ◌+◌, ◌*◌, ◌/◌, ◌%◌, ◌≤◌, length, take, drop}
use Rattle.model.specs.Places.{pick, bit}
use Rattle.mends.specs.Mends.{stray, loop, double, moved}
use Rattle.mend_record.specs.declared.Fate.{Fate}

unfoldable pub over : List ℕ → ℕ → List ℕ → List ℕ
over old at r = take at old ++ (r ++ drop (at + length r) old)

unfoldable pub put : List ℕ → ℕ → List ℕ → Bool → List ℕ
put old at r on = pick on (over old at r) old

pub record Held (l old b : List ℕ) : Type 0 where
  pub holds : b ≡ l ++ drop (length l) old
  pub fits : length l ≤ length old

abbrev pub entry_bytes : ℕ → ℕ → List ℕ
entry_bytes letter k = letter ∷ k % 256 ∷ k / 256 ∷ 0 ∷ 0 ∷ 0 ∷ 0 ∷ 0 ∷ []

unfoldable pub fate_of : List ℕ → ℕ → Fate
fate_of s k = record { stray = stray s k; looped = loop s k; doubled = double s k; moved = moved s k }

unfoldable pub notes : List ℕ → ℕ → ℕ → Fate → List ℕ
notes old n k f =
    put (put (put (put old n (entry_bytes 0x43 k) f.stray) (n + 8 * bit f.stray) (entry_bytes 0x44 k) f.looped) (n + 8 * bit f.stray + 8 * bit f.looped) (entry_bytes 0x58 k) f.doubled)
    (n + 8 * bit f.stray + 8 * bit f.looped + 8 * bit f.doubled) (entry_bytes 0x4D k) f.moved
