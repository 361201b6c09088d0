-- For our own layers alone: no contract for callers and no claim cites this file.
--
-- The file as the code makes it, record by record in a table of its own. Only private contracts cite this: nothing here has to be believed.
--
--   record_at_of g a b k     record k of a file with a types and b vertices
--   part g a b e         the file of the first a types, b vertices and e edges (proofs/Part: of all of them it is file_of)
--   seen g               the part up to one record more of each kind than is allowed (proofs/Cut: it is judged as the whole file is)
--   imaged f n           the first n records in the table of 9,320 bytes, which 11 types, 129 vertices and 1,025 edges take
use Rattle.std.specs.Prelude.{List, ◌++◌, ℕ, ◌+◌, ◌-◌, ◌*◌, min, length, replicate, ltb}
use Rattle.model.specs.Places.{pick}
use Rattle.writer.specs.Lists.{Lists}
use Rattle.writer.specs.Write.{type_of, vertex_of, edge_of, joined}

unfoldable pub record_at_of : Lists → ℕ → ℕ → ℕ → List ℕ
record_at_of g a b k = pick (ltb k a) (type_of g k) (pick (ltb (k - a) b) (vertex_of g (k - a)) (edge_of g (k - a - b)))

unfoldable pub part : Lists → ℕ → ℕ → ℕ → List ℕ
part g a b e = joined (record_at_of g a b) (a + b + e)

unfoldable pub seen : Lists → List ℕ
seen g = part g (min (length g.cores) 11) (min (length g.kinds) 129) (min (length g.edges) 1025)

unfoldable pub imaged : (ℕ → List ℕ) → ℕ → List ℕ
imaged f n = joined f n ++ replicate (9320 - 8 * n) 0
