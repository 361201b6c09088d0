-- The answers of the reader and the writer, as demand 1 says them.
use Rattle.std.specs.Prelude.{Ok, Err}
use mathlib.Core.Path.{◌≡◌, refl, ap}
use mathlib.Core.Logic.{◌⊎◌, inl, inr, ◌↔◌}
use mathlib.Core.List.{List, ◌++◌}
use mathlib.Core.Bool.{Bool, true, false, not, ◌||◌}
use Prim.Native.Nat.{ℕ, ◌≤◌, ◌<◌}
use native.Mathlib.Omega.{arith}
use native.Mathlib.Decide.{ℕ_discrete}
use lib.Dec.{eqb, ltb, lit<, lit≤}
use lib.ListN.{length, drop}
use borrow.Author.Tests.{lt-ltb, le-ltb, eq-eqb, ne_eqb}
use Rattle.model.specs.Places.{pick}
use Rattle.model.proofs.Bools.{not-true, le-or-lt}
use Rattle.model.proofs.Cycles.{cyclic_walk, walk_cyclic}
use Rattle.graph.specs.File.{graph_of, no_graph_of}
use Rattle.graph.specs.Model.{AcceptedGraph}
use Rattle.graph.specs.Rules.{holds, per_record_of, places, rule11}
use Rattle.graph.specs.Judge.{judge_from, read_of, Rightly}
use Rattle.graph.specs.declared.Refusal.{Refusal}
use Rattle.graph.specs.Answer.{Answer}
use Rattle.graph.specs.Answer.{Accepted, Refused}
use Rattle.graph.proofs.Judging.{none-holds, rightly, accepts, refuses}
use Rattle.graph.proofs.Accepted as accepted
use Rattle.writer.specs.Lists.{Lists}
use Rattle.writer.specs.Write.{file_of, wrote_of, room_after}
use Rattle.writer.specs.Wrote.{Bytes as Wrote-bytes, Refused as NotWritten}
use Rattle.claims.specs.Claims.{Bytes, drawn_in, at_0, NoneFrom, Closed, Answered, taken, refused, Sound}
use Rattle.claims.specs.Claims as claims

-- ---- the reader

pub read-answered : (s : List ℕ) → Answered s (read_of s)
unfolding read_of
read-answered s = go (judge_from 1 s) refl
  where
    go : (a : Answer) → judge_from 1 s ≡ a → Answered s (read_of s)
    go (Ok _) e = taken e (λ num k f l d. none-holds 1 s e num f l k d) (rw e refl)
    go (Err r) e = refused e (rightly 1 s r e) (rw e refl)

-- a number that is said of the whole file is given, at place 0, exactly where its row holds and no lower number applies
pub whole-judged : (s : List ℕ) (num : ℕ) → 1 ≤ num → num < 12 → per_record_of num ≡ false → (judge_from 1 s ≡ Refused (at_0 num)) ↔ (NoneFrom 1 num s × (holds s num 0 ≡ true))
whole-judged s num f l w = (
  λ e. let r = rightly 1 s (at_0 num) e in (r.no_lower, r.there),
  λ c. refuses 1 s num f l c.0 w c.1,
)

module _ (s : List ℕ) (bytes : Bytes s) where
  -- where no lower number applies, the row of number 11 says that there is a cycle
  cycle-row : NoneFrom 1 11 s → (holds s 11 0 ≡ true) ↔ Closed (drawn_in s)
  unfolding holds rule11
  cycle-row none =
      let W = accepted.well_formed s bytes (λ num f l k d. none num k (omega arith) l d) in
      (walk_cyclic W, λ c. cyclic_walk W c.0 c.1)

  pub cycle-judged : (judge_from 1 s ≡ Refused (at_0 11)) ↔ (NoneFrom 1 11 s × Closed (drawn_in s))
  cycle-judged = (to, back)
    where
      to : judge_from 1 s ≡ Refused (at_0 11) → NoneFrom 1 11 s × Closed (drawn_in s)
      to e = let r = (whole-judged s 11 (lit≤ tt) (lit< tt) refl).0 e in (r.0, (cycle-row r.0).0 r.1)

      back : NoneFrom 1 11 s × Closed (drawn_in s) → judge_from 1 s ≡ Refused (at_0 11)
      back c = (whole-judged s 11 (lit≤ tt) (lit< tt) refl).1 (c.0, (cycle-row c.0).1 c.1)

  -- it is said of the whole file, at its one place
  no_cycle : Sound s → (k : ℕ) → k < places s 11 → holds s 11 k ≡ false
  unfolding places holds
  no_cycle S k d = not-true (holds s 11 0) (λ x. let c = (cycle-row S.in_form).0 x in S.acyclic c.0 c.1)

  none : Sound s → (num k : ℕ) → 1 ≤ num → num < 12 → k < places s num → holds s num k ≡ false
  none S num k f l d = at (ℕ_discrete num 11)
    where
      at : Dec (num ≡ 11) → holds s num k ≡ false
      at (yes e) = rw e (no_cycle S k (rw e at d))
      at (no x) = S.in_form num k f (omega arith) d

  pub sound-judged : (judge_from 1 s ≡ Accepted) ↔ Sound s
  sound-judged = (to, λ S. accepts 1 s (lit≤ tt) (none S))
    where
      to : judge_from 1 s ≡ Accepted → Sound s
      to ok =
          let A = accepted.accepted s bytes ok in
          record {
            in_form = λ num k f l d. none-holds 1 s ok num f (omega arith) k d;
            acyclic = A.acyclic;
          }

-- ---- the writer

module _ (g : Lists) (old : List ℕ) where
  left_alone : (r : Refusal) → wrote_of g (length old) ≡ NotWritten r → room_after g old ≡ old
  unfolding room_after
  left_alone r e = rw e refl

  filled : (size : ℕ) → wrote_of g (length old) ≡ Wrote-bytes size → room_after g old ≡ file_of g ++ drop size old
  unfolding room_after
  filled size e = rw e refl

  pub write-answered : claims.WriteAnswered g old (wrote_of g (length old)) (room_after g old)
  write-answered = go (ℕ_discrete (length g.kinds) (length g.wcets)) (judge_from 4 (file_of g)) refl (le-or-lt (length (file_of g)) (length old))
    where
      go : Dec (length g.kinds ≡ length g.wcets) → (a : Answer) → judge_from 4 (file_of g) ≡ a
          → (length (file_of g) ≤ length old) ⊎ (length old < length (file_of g)) → claims.WriteAnswered g old (wrote_of g (length old)) (room_after g old)
      go (no x) a e l =
          let w : wrote_of g (length old) ≡ NotWritten (at_0 13) = unfold wrote_of in rw (ne_eqb (length g.kinds) (length g.wcets) x) refl in
          rw (left_alone (at_0 13) w, w) (claims.unlike x)
      go (yes q) (Err r) e l =
          let w : wrote_of g (length old) ≡ NotWritten r = unfold wrote_of in rw (eq-eqb (length g.kinds) (length g.wcets) q, e) refl in
          rw (left_alone r w, w) (claims.refused q (rightly 4 (file_of g) r e))
      go (yes q) (Ok _) e (inl l) =
          let w : wrote_of g (length old) ≡ Wrote-bytes (length (file_of g)) = unfold wrote_of in rw (eq-eqb (length g.kinds) (length g.wcets) q, e, le-ltb (length old) (length (file_of g)) l) refl in
          rw (filled (length (file_of g)) w, w) (claims.wrote q (λ num k f b d. none-holds 4 (file_of g) e num f b k d) l)
      go (yes q) (Ok _) e (inr l) =
          let w : wrote_of g (length old) ≡ NotWritten (at_0 15) = unfold wrote_of in rw (eq-eqb (length g.kinds) (length g.wcets) q, e, lt-ltb (length old) (length (file_of g)) l) refl in
          rw (left_alone (at_0 15) w, w) (claims.narrow q (λ num k f b d. none-holds 4 (file_of g) e num f b k d) l)
