-- The file of a graph's lists (document 01, "The file"), what the writer answers, and what the lent room then holds.
--
--   type_record_of number cores          the 8 bytes of a type record
--   vertex_record_of number kind wcet    the 8 bytes of a vertex record
--   edge_record_of edge                  the 8 bytes of an edge record
--   joined f n                       the lists f 0, .. , f (n - 1), one after the other
--   file_of g                         all type records, then all vertex records, then all edge records
--   wrote_of g room                   the writer's answer where so many bytes are lent
--   of_wrote w                        the answer in document 01's numbers: its value is the file's length
--   room_after g out                  what the lent room holds at the end, where it held out
--
-- A number is its record's place among its kind. Where the lists are too long for that to be a byte, they are refused.
use Rattle.std.specs.Prelude.{Ok, Err}
use Rattle.std.specs.Prelude.{List, [], ◌∷◌, ◌++◌, ℕ, zero, suc, ◌/◌, ◌%◌, length, get_or, drop, eqb, ltb}
use Rattle.model.specs.Places.{pick}
use Rattle.graph.specs.Judge.{judge_from}
use Rattle.graph.specs.Said.{Said, said_no}
use Rattle.graph.specs.Answer.{Answer}
use Rattle.graph.specs.Answer as answers
use Rattle.writer.specs.Lists.{Lists}
use Rattle.writer.specs.Wrote.{Wrote}
use Rattle.writer.specs.Wrote.{Bytes, Refused}

abbrev pub type_record_of : ℕ → ℕ → List ℕ
type_record_of number cores = 0x54 ∷ number ∷ cores ∷ 0 ∷ 0 ∷ 0 ∷ 0 ∷ 0 ∷ []

-- the WCET's low byte first
abbrev pub vertex_record_of : ℕ → ℕ → ℕ → List ℕ
vertex_record_of number kind wcet =
    0x56 ∷ number ∷ kind ∷ 0 ∷ wcet % 256 ∷ wcet / 256 % 256 ∷ wcet / 65536 % 256 ∷ wcet / 16777216 ∷ []

-- an edge is from × 256 + to
abbrev pub edge_record_of : ℕ → List ℕ
edge_record_of edge = 0x45 ∷ edge / 256 ∷ edge % 256 ∷ 0 ∷ 0 ∷ 0 ∷ 0 ∷ 0 ∷ []

unfoldable pub joined : (ℕ → List ℕ) → ℕ → List ℕ
joined f zero = []
joined f (suc n) = joined f n ++ f n

-- the record of type k, of vertex v, of edge i
unfoldable pub type_of : Lists → ℕ → List ℕ
type_of g k = type_record_of k (get_or g.cores k 0)

unfoldable pub vertex_of : Lists → ℕ → List ℕ
vertex_of g v = vertex_record_of v (get_or g.kinds v 0) (get_or g.wcets v 0)

unfoldable pub edge_of : Lists → ℕ → List ℕ
edge_of g i = edge_record_of (get_or g.edges i 0)

unfoldable pub file_of : Lists → List ℕ
file_of g =
    joined (type_of g) (length g.cores) ++ (joined (vertex_of g) (length g.kinds) ++ joined (edge_of g) (length g.edges))

-- the answer where the file is judged so and has `size` bytes: 15 where there is less room
abbrev pub wrote_by : Answer → ℕ → ℕ → Wrote
wrote_by (Ok _) size room = pick (ltb room size) (Refused (record { number = 15; place = 0 })) (Bytes size)
wrote_by (Err r) size room = Refused r

-- 13 first, where types and WCETs differ in length; then 4 to 11, with the places the records would have had; then 15
unfoldable pub wrote_of : Lists → ℕ → Wrote
wrote_of g room =
    pick (eqb (length g.kinds) (length g.wcets))
    (wrote_by (judge_from 4 (file_of g)) (length (file_of g)) room)
    (Refused (record { number = 13; place = 0 }))

abbrev pub of_wrote : Wrote → Said
of_wrote (Ok size) = record { number = 0; place = 0; value = size }
of_wrote (Err r) = said_no r

-- on success the file, then what stood past it; beside a refusal what stood there
abbrev pub room_by : Wrote → List ℕ → List ℕ → List ℕ
room_by (Ok size) file out = file ++ drop size out
room_by (Err r) file out = out

unfoldable pub room_after : Lists → List ℕ → List ℕ
room_after g out = room_by (wrote_of g (length out)) (file_of g) out
