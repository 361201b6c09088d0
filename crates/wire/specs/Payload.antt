-- For our own layers alone: no contract for callers and no claim cites this file.
--
-- What a request's payload holds: lists (4 bytes of the length in bytes, then the bytes) and numbers (8 bytes), low byte first. `p` is its bytes.
--
--   two_bytes p i        the number of the 2 bytes from place i on
--   four_bytes p i       the number of the 4 bytes from place i on
--   list_at p i          where the bytes of the list that begins at place i start and end; none where the payload has no list there
--   number_at p i        the number that begins at place i, and where it ends; none where the payload has no number there
--   Within r p          the part r lies in the payload
--   laid_in k p l        how many numbers of k bytes are laid from p in l: as many as p has, and as l has places for
--   laid_over f n l      the list l with f 0, .. , f (n - 1) over its first n places
use Rattle.std.specs.Prelude.{List, Option, Some, None, ◌++◌, ℕ, ◌+◌, ◌*◌, ◌/◌, ◌≤◌, min, length, get_or, drop, leb}
use Rattle.model.specs.Places.{pick, table}
use Rattle.wire.specs.declared.Part.{Part}
use Rattle.wire.specs.declared.Eight.{Eight}

abbrev pub two_bytes : List ℕ → ℕ → ℕ
two_bytes p i = get_or p i 0 + 256 * get_or p (i + 1) 0

abbrev pub four_bytes : List ℕ → ℕ → ℕ
four_bytes p i = two_bytes p i + 65536 * two_bytes p (i + 2)

unfoldable pub list_at : List ℕ → ℕ → Option Part
list_at p i = pick (leb (i + 4 + four_bytes p i) (length p)) (Some (record { start = i + 4; end = i + 4 + four_bytes p i })) None

unfoldable pub number_at : List ℕ → ℕ → Option Eight
number_at p i = pick (leb (i + 8) (length p)) (Some (record { value = four_bytes p i + 4294967296 * four_bytes p (i + 4); end = i + 8 })) None

abbrev pub Within : Part → List ℕ → Type 0
Within r p = (r.start ≤ r.end) × (r.end ≤ length p)

abbrev pub laid_in : ℕ → List ℕ → List ℕ → ℕ
laid_in k p l = min (length p / k) (length l)

unfoldable pub laid_over : (ℕ → ℕ) → ℕ → List ℕ → List ℕ
laid_over f n l = table f n ++ drop n l
