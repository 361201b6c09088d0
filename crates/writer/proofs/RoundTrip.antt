-- The two round trips: writing what was read gives the same bytes, and reading what was written gives the same lists.
use Rattle.std.specs.Prelude.{Ok, Err}
use mathlib.Core.Path.{◌≡◌, refl, sym, ap, ◌∙◌}
use mathlib.Core.Bool.{Bool, true, false}
use mathlib.Core.List.{List, ◌++◌}
use Prim.Native.Nat.{ℕ, ◌-◌, ◌≤◌, ◌<◌}
use native.Mathlib.Omega.{arith}
use lib.ListN.{length, get_or, take, drop, replicate}
use lib.Seq.{take_at}
use lib.Dec.{eqb, ltb, lit≤}
use borrow.Author.Tests.{eq-eqb, eqb-true, le-ltb}
use Rattle.model.specs.Places.{pick}
use Rattle.graph.specs.File.{graph_of}
use Rattle.graph.specs.Judge.{judge_from, read_of}
use Rattle.graph.specs.Answer.{Answer}
use Rattle.graph.specs.Answer as answers
use Rattle.graph.specs.Answer.{Taken}
use Rattle.writer.specs.Lists.{Lists, lists_in, lists_of, filled, graph_from}
use Rattle.writer.specs.Write.{file_of, wrote_by, wrote_of, room_after}
use Rattle.writer.specs.RoundTrip.{WrittenBack, ReadBack}
use Rattle.writer.specs.Wrote.{Bytes, Refused}
use Rattle.writer.proofs.Acceptance.{accepted-from}
use Rattle.writer.proofs.FromFile.{file_back, as_many}
use Rattle.writer.proofs.FromLists.{graph_back, file-accepted}

-- ---- writing what was read

read-accepted : (s : List ℕ) → judge_from 1 s ≡ answers.Accepted → read_of s ≡ record { answer = answers.Accepted; graph = graph_of s }
unfolding read_of
read-accepted s ok = rw ok refl

wrote-accepted : (g : Lists) (room : ℕ) → length g.kinds ≡ length g.wcets → judge_from 4 (file_of g) ≡ answers.Accepted → length (file_of g) ≤ room
    → wrote_of g room ≡ Bytes (length (file_of g))
unfolding wrote_of
wrote-accepted g room h ok l = rw (eq-eqb (length g.kinds) (length g.wcets) h, ok, le-ltb room (length (file_of g)) l) refl

room-accepted : (g : Lists) (out : List ℕ) (size : ℕ) → wrote_of g (length out) ≡ Bytes size → room_after g out ≡ file_of g ++ drop size out
unfolding room_after
room-accepted g out size e = rw e refl

-- every accepted file, written from the lists that the reader's value holds
pub read-written : (s out : List ℕ) → ((i : ℕ) → get_or s i 0 < 256) → judge_from 1 s ≡ answers.Accepted → length s ≤ length out → WrittenBack s out
unfolding lists_of
read-written s out bytes ok l =
    let g : Lists = lists_of s in
    let file : file_of g ≡ s = file_back s bytes ok in
    let judged : judge_from 4 (file_of g) ≡ answers.Accepted = rw file (accepted-from 1 4 s (lit≤ tt) (lit≤ tt) ok) in
    let wrote : wrote_of g (length out) ≡ Bytes (length s) = wrote-accepted g (length out) (as_many s) judged (rw file l) ∙ ap (λ (x : List ℕ). Bytes (length x)) file in
    let same : lists_in (read_of s).graph ≡ g = ap (λ (t : Taken). lists_in t.graph) (read-accepted s ok) in
    record {
      file = rw same file;
      answer = rw same wrote;
      room = rw same (room-accepted g out (length s) wrote ∙ ap (λ (x : List ℕ). x ++ drop (length s) out) file);
    }

-- ---- reading what was written

-- what an answer of so many bytes tells
record Written (g : Lists) (size : ℕ) : Type 0 where
  as_many : length g.kinds ≡ length g.wcets
  judged : judge_from 4 (file_of g) ≡ answers.Accepted
  whole : size ≡ length (file_of g)

written : (g : Lists) (room size : ℕ) → wrote_of g room ≡ Bytes size → Written g size
unfolding wrote_of
written g room size h =
    go (eqb (length g.kinds) (length g.wcets)) refl (judge_from 4 (file_of g)) refl (ltb room (length (file_of g))) refl h
  where
    go : (x : Bool) → eqb (length g.kinds) (length g.wcets) ≡ x → (y : Answer) → judge_from 4 (file_of g) ≡ y → (z : Bool) → ltb room (length (file_of g)) ≡ z
        → pick x (wrote_by y (length (file_of g)) room) (Refused (record { number = 13; place = 0 })) ≡ Bytes size → Written g size
    go false p y q z r e = absurd (let c : ◌≡◌ {A = ℕ} 0 1 = cc in omega arith)
    go true p (Err f) q z r e = absurd (let c : ◌≡◌ {A = ℕ} 0 1 = cc in omega arith)
    go true p (Ok _) q true r e = absurd (let t = rw r at e in let c : ◌≡◌ {A = ℕ} 0 1 = cc in omega arith)
    go true p (Ok _) q false r e =
        record { as_many = eqb-true (length g.kinds) (length g.wcets) p; judged = q; whole = let t = rw r at e in cc }

filled-take : (n : ℕ) (l : List ℕ) → take (length l) (filled n l) ≡ l
unfolding filled
filled-take n l = take_at l (replicate (n - length l) 0) (length l) refl

lists_again : (g : Lists) → length g.kinds ≡ length g.wcets → lists_in (graph_from g) ≡ g
unfolding lists_in graph_from
lists_again g h =
    let w : take (length g.kinds) (filled 128 g.wcets) ≡ g.wcets = ap (λ (n : ℕ). take n (filled 128 g.wcets)) h ∙ filled-take 128 g.wcets in
    rw (filled-take 10 g.cores, filled-take 128 g.kinds, w, filled-take 1024 g.edges) refl

-- the lists that the writer takes, read from the bytes that it wrote
pub written_read : (g : Lists) (size : ℕ) (out : List ℕ) → wrote_of g (length out) ≡ Bytes size → ReadBack g size out
written_read g size out h =
    let w = written g (length out) size h in
    record {
      file = rw (room-accepted g out size h) (take_at (file_of g) (drop size out) size (sym w.whole));
      read = rw (← graph_back g w.as_many) (read-accepted (file_of g) (file-accepted g w.judged));
      lists = lists_again g w.as_many;
    }
