-- Nothing unlisted happened (order 12): the mended file made again from the input and the list alone. A record listed D or X goes, any
-- other stays. The bytes of a record listed C that must be 0 are cleared, no byte of any other. An edge listed M goes where its ends
-- belong among the edges that stay; an edge not listed M keeps its place among them; types and vertices stay where they are.
--
--   says list m k e      record e of the list is the mend m of record k
--   listed list m k      the list has such a record
--   goes_not list k       neither D nor X is listed for record k
--   remains s list k     an edge of s for which neither is
--   stood s list k       its place among these edges as they stood
--   belongs s list k     its place among them by their ends
--   put s list k         the record that k becomes
--   redo s list          the file
use Rattle.std.specs.Prelude.{Bool, not, ◌&&◌, List, ℕ, ◌+◌, ◌*◌, eqb, ltb}
use Rattle.model.specs.Places.{pick, any, count}
use Rattle.graph.specs.File.{records, byte_at, key_at}
use Rattle.mends.specs.Mends.{Mend, clear, drop_loop, drop_double, move, is_edge}
use Rattle.mends.specs.Mended.{heads, built}
use Rattle.mends.specs.Listed.{letter}

unfoldable pub says : List ℕ → Mend → ℕ → ℕ → Bool
says list m k e = eqb (byte_at list e 0) (letter m) && eqb (byte_at list e 1 + 256 * byte_at list e 2) k

unfoldable pub listed : List ℕ → Mend → ℕ → Bool
listed list m k = any (says list m k) (records list)

unfoldable pub goes_not : List ℕ → ℕ → Bool
goes_not list k = not (listed list drop_loop k) && not (listed list drop_double k)

unfoldable pub remains : List ℕ → List ℕ → ℕ → Bool
remains s list k = is_edge s k && goes_not list k

unfoldable pub stood : List ℕ → List ℕ → ℕ → ℕ
stood s list k = count (remains s list) k

unfoldable pub under : List ℕ → List ℕ → ℕ → ℕ → Bool
under s list k j = remains s list j && ltb (key_at s j) (key_at s k)

unfoldable pub belongs : List ℕ → List ℕ → ℕ → ℕ
belongs s list k = count (under s list k) (records s)

unfoldable pub put : List ℕ → List ℕ → ℕ → ℕ
put s list k = pick (is_edge s k) (heads s + pick (listed list move k) (belongs s list k) (stood s list k)) k

unfoldable pub redo : List ℕ → List ℕ → List ℕ
redo s list = built s (listed list clear) (goes_not list) (put s list)
