-- The two round trips between a record file and its text (order 9), as claims over what reading and writing a text answer.
--
--   cores_for s, kinds_of s     the lists of cores and of kinds that the record file s holds
--   ReadBack s size out      the text of s, written as size bytes to a room that held out: read with the cores and kinds of s it gives s
--   Canonical t              t is laid out as the writer lays out, for some tasks, times of ten digits at most, and predecessors
--   file_got_of t c k size out   the record file of size bytes that reading t, with the cores c and the kinds k, left in a room that held out
--   WrittenBack t f          the record file f, got from the text t: its text is t, and nothing but 24 or 15 says no to writing it
use Rattle.std.specs.Prelude.{◌≡◌, Bool, List, ◌++◌, ℕ, ◌+◌, ◌^◌, ◌≤◌, ◌<◌, length, take, drop}
use Rattle.model.specs.Places.{pick}
use Rattle.graph.specs.Judge.{read_of}
use Rattle.graph.specs.Answer.{Accepted}
use Rattle.writer.specs.Lists.{lists_in}
use Rattle.writer.specs.Write.{wrote_by}
use Rattle.writer.specs.Wrote.{Bytes, Refused}
use Rattle.stg_text.specs.Canonical.{lay_out_of, text_of}
use Rattle.stg_text.specs.Answers.{read_stg_of, read_room, other_ends_of, write_stg_of, write_room}

abbrev pub cores_for : List ℕ → List ℕ
cores_for s = (lists_in (read_of s).graph).cores

abbrev pub kinds_of : List ℕ → List ℕ
kinds_of s = (lists_in (read_of s).graph).kinds

pub record ReadBack (s : List ℕ) (size : ℕ) (out : List ℕ) : Type 0 where
  pub text : take size (write_room s out) ≡ text_of (read_of s).graph
  pub answer : (room : List ℕ) → length s ≤ length room → read_stg_of (text_of (read_of s).graph) (cores_for s) (kinds_of s) (length room) ≡ Bytes (length s)
  pub file : (room : List ℕ) → length s ≤ length room → read_room (text_of (read_of s).graph) (cores_for s) (kinds_of s) room ≡ s ++ drop (length s) room

pub record Canonical (t : List ℕ) : Type 0 where
  pub n : ℕ
  pub time : ℕ → ℕ
  pub pred : ℕ → ℕ → Bool
  pub some : 1 ≤ n
  pub few : n ≤ 126
  pub small : (v : ℕ) → v < n + 2 → time v < 10 ^ 10
  pub is : t ≡ lay_out_of n time pred

abbrev pub file_got_of : List ℕ → List ℕ → List ℕ → ℕ → List ℕ → List ℕ
file_got_of t cores kinds size out = take size (read_room t cores kinds out)

pub record WrittenBack (t f : List ℕ) : Type 0 where
  pub text : text_of (read_of f).graph ≡ t
  pub answer : (room : ℕ)
      → write_stg_of f room ≡ pick (other_ends_of (read_of f).graph) (Refused (record { number = 24; place = 0 })) (wrote_by Accepted (length t) room)
