-- For our own layers alone: no contract for callers and no claim cites this file.
--
-- The two round trips between a file and its lists, as claims over what the reader gives (read_of) and the writer answers (wrote_of, room_after).
--
--   WrittenBack s out     the lists of the reader's value for s, written to a room that held out: the bytes s stand there again
--   ReadBack g size out   the lists g, written as size bytes to a room that held out: from these bytes the reader gives the lists
use Rattle.std.specs.Prelude.{◌≡◌, List, ◌++◌, ℕ, length, take, drop}
use Rattle.graph.specs.Judge.{read_of}
use Rattle.graph.specs.Answer.{Accepted}
use Rattle.writer.specs.Lists.{Lists, lists_in, graph_from}
use Rattle.writer.specs.Write.{file_of, wrote_of, room_after}
use Rattle.writer.specs.Wrote.{Bytes}

pub record WrittenBack (s out : List ℕ) : Type 0 where
  pub file : file_of (lists_in (read_of s).graph) ≡ s
  pub answer : wrote_of (lists_in (read_of s).graph) (length out) ≡ Bytes (length s)
  pub room : room_after (lists_in (read_of s).graph) out ≡ s ++ drop (length s) out

pub record ReadBack (g : Lists) (size : ℕ) (out : List ℕ) : Type 0 where
  pub file : take size (room_after g out) ≡ file_of g
  pub read : read_of (file_of g) ≡ record { answer = Accepted; graph = graph_from g }
  pub lists : lists_in (graph_from g) ≡ g
