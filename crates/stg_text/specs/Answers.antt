-- What reading and writing a text answer, and what the lent room then holds (order 9).
--
--   read_stg_of s cores kinds room    23 with the line at fault; then 13 where the list of kinds hasn't n + 2 places, 4 to 11 with the places
--                                   the records would have, and 15, as the writer of the record file gives them; else the file's length
--   read_room s cores kinds out      the lent room after reading, where it held out
--   other_ends_of h                     the graph has fewer than three vertices, another vertex than the first as source, another than the last
--                                   as sink, or either with a time above 0
--   write_stg_of s room               the record file's refusals; then 24 where the graph has other ends; then 15; else the text's length
--   write_room s out                 the lent room after writing, where it held out
use Rattle.std.specs.Prelude.{Ok, Err}
use Rattle.std.specs.Prelude.{Bool, not, ◌&&◌, ◌||◌, List, ℕ, ◌-◌, length, eqb, ltb}
use Rattle.model.specs.Places.{pick, any}
use Rattle.model.specs.Graph.{source, sink}
use Rattle.graph.specs.Model.{as_model}
use Rattle.graph.specs.Judge.{read_of}
use Rattle.graph.specs.Answer.{Answer}
use Rattle.graph.specs.Answer as answers
use Rattle.graph.specs.declared.Graph.{Graph}
use Rattle.writer.specs.Write.{file_of, wrote_by, wrote_of, room_by}
use Rattle.writer.specs.Wrote.{Wrote}
use Rattle.writer.specs.Wrote.{Refused}
use Rattle.stg_text.specs.Layout.{outside, fault_of}
use Rattle.stg_text.specs.Says.{says}
use Rattle.stg_text.specs.Canonical.{text_of}

unfoldable pub read_stg_of : List ℕ → List ℕ → List ℕ → ℕ → Wrote
read_stg_of s cores kinds room =
    pick (outside s) (Refused (record { number = 23; place = fault_of s })) (wrote_of (says s cores kinds) room)

unfoldable pub read_room : List ℕ → List ℕ → List ℕ → List ℕ → List ℕ
read_room s cores kinds out = room_by (read_stg_of s cores kinds (length out)) (file_of (says s cores kinds)) out

unfoldable pub other_source : Graph → ℕ → Bool
other_source h v = not (eqb v 0) && source (as_model h) v

unfoldable pub other_sink : Graph → ℕ → Bool
other_sink h v = not (eqb v (h.n - 1)) && sink (as_model h) v

unfoldable pub other_ends_of : Graph → Bool
other_ends_of h =
    ltb h.n 3
    || (any (other_source h) h.n
    || (any (other_sink h) h.n || (ltb 0 ((as_model h).wcet 0) || ltb 0 ((as_model h).wcet (h.n - 1)))))

-- the answer for a file that is accepted with the graph h
unfoldable pub write_of : Graph → ℕ → Wrote
write_of h room = pick (other_ends_of h) (Refused (record { number = 24; place = 0 })) (wrote_by answers.Accepted (length (text_of h)) room)

abbrev pub write_by : Answer → Graph → ℕ → Wrote
write_by (Ok _) h room = write_of h room
write_by (Err r) h room = Refused r

unfoldable pub write_stg_of : List ℕ → ℕ → Wrote
write_stg_of s room = write_by (read_of s).answer (read_of s).graph room

unfoldable pub write_room : List ℕ → List ℕ → List ℕ
write_room s out = room_by (write_stg_of s (length out)) (text_of (read_of s).graph) out
