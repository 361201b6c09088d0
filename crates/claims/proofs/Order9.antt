-- Order 9, "Read and write STG": "Our test graphs come as Standard Task Graph Set text .. reading hands back our record file in a lent buffer."
--
-- Said over the contracts of the entries `stg::read` and `stg_writer::write` (specs/Entries). The layout, what a text says and the text of a graph
-- are defined on bytes in `stg_text`, specs/Layout, Says and Canonical.
use mathlib.Core.Path.{◌≡◌, refl, sym, ap, ◌∙◌}
use mathlib.Core.Bool.{Bool, true, false}
use mathlib.Core.Logic.{◌↔◌, ◌⊎◌, inl, inr}
use mathlib.Core.List.{List, ◌++◌}
use Prim.Native.Nat.{ℕ, ◌+◌, ◌≤◌, ◌<◌}
use native.Mathlib.Omega.{arith}
use lib.ListN.{length, take, drop}
use lib.Dec.{ltb}
use borrow.Author.Tests.{ltb-true}
use Rattle.model.specs.Places.{pick}
use Rattle.model.proofs.Bools.{cases, clash}
use Rattle.graph.specs.Judge.{read_of}
use Rattle.graph.specs.declared.Refusal.{Refusal}
use Rattle.graph.specs.Answer.{Taken}
use Rattle.graph.specs.Answer as answers
use Rattle.writer.specs.Lists.{Lists}
use Rattle.writer.specs.Write.{wrote_by, room_by}
use Rattle.writer.specs.Wrote.{Wrote}
use Rattle.writer.specs.Wrote.{Bytes as Wrote-bytes, Refused}
use Rattle.stg_text.specs.Layout.{tasks, outside, fault_of, LIMIT}
use Rattle.stg_text.specs.Says.{says}
use Rattle.stg_text.specs.Canonical.{text_of}
use Rattle.stg_text.specs.Answers.{read_stg_of, other_ends_of, write_room}
use Rattle.stg_text.specs.GraphSaid.{GraphSaid}
use Rattle.stg_text.specs.RoundTrip.{cores_for, kinds_of, Canonical, WrittenBack}
use Rattle.stg_text.specs.Refusals.{AtFault}
use Rattle.stg_text.proofs.Refusing.{outside-refused, outside-first, kinds-refused, read_untouched, file-refused, ends-refused, ends-accepted, write_untouched}
use Rattle.stg_text.proofs.RoundTrip.{read-inside, room-inside, text-read}
use Rattle.stg_text.proofs.Got.{graph-said}
use Rattle.stg_text.proofs.Again.{text-written}
use Rattle.codes.specs.Coded.{coded_wrote_of}
use Rattle.codes.specs.declared.PlannerCount.{PlannerCount}
use Rattle.claims.specs.Claims.{Bytes, IsAccepted, WriteAnswered, at_0}
use Rattle.claims.specs.Claims as claims
use Rattle.claims.specs.Entries.{ReadGives, WriteGives, StgReadGives, StgWriteGives, PlannerStgReadGives, PlannerStgWriteGives}
use Rattle.claims.proofs.Entries.{read-given, write-given, stg_read-given, stg_write-given, planner_stg_read-given, planner_stg_write-given}
use Rattle.claims.proofs.Judged.{write-answered}

-- ---- reading

-- the writer of the record file never says 23
never_23 : {g : Lists} {old new : List ℕ} {w : Wrote} {p : ℕ} → WriteAnswered g old w new → w ≡ Refused (record { number = 23; place = p }) → ⊥
never_23 {p = p} (claims.unlike n) e = let q : at_0 13 ≡ record { number = 23; place = p } = cc in let c = ap (λ (x : Refusal). x.number) q in omega arith
never_23 {p = p} (claims.refused {r = r} q h) e =
    let z : r ≡ record { number = 23; place = p } = cc in let c = ap (λ (x : Refusal). x.number) z in omega (arith, h.known)
never_23 {p = p} (claims.narrow q n l) e = let z : at_0 15 ≡ record { number = 23; place = p } = cc in let c = ap (λ (x : Refusal). x.number) z in omega arith
never_23 (claims.wrote q n l) e = let c : ◌≡◌ {A = ℕ} 0 1 = cc in omega arith

-- nor is 15, or a length, 24
never_24 : (l : Bool) (k : ℕ) {w : Wrote} → w ≡ pick l (Refused (at_0 15)) (Wrote-bytes k) → w ≡ Refused (at_0 24) → ⊥
never_24 true k a e = let z = sym a ∙ e in let q : at_0 15 ≡ at_0 24 = cc in let c = ap (λ (x : Refusal). x.number) q in omega arith
never_24 false k a e = let z = sym a ∙ e in let c : ◌≡◌ {A = ℕ} 0 1 = cc in omega arith

module _ {t cores kinds old new : List ℕ} {w : Wrote} (R : StgReadGives t cores kinds old w new) where
  -- THEOREM. A text outside the layout is refused with 23, before anything else: 0 for one that is too long, else at its first line at fault.
  pub outside_23 : outside t ≡ true → w ≡ Refused (record { number = 23; place = fault_of t })
  outside_23 o = (stg_read-given R).0 ∙ outside-refused t cores kinds (length old) o

  pub first-line : length t ≤ LIMIT → outside t ≡ true → AtFault t (fault_of t)
  first-line = outside-first t

  -- THEOREM. Of a text inside the layout, reading gives what the writer of the record file gives for the lists that the text says, beside the lent
  -- cores and kinds: the file, 13, 4 to 11 with the places that the records would have, or 15.
  pub reads_as_writes : {w' : Wrote} {new' : List ℕ} → outside t ≡ false → WriteGives (says t cores kinds) old w' new' → (w ≡ w') × (new ≡ new')
  reads_as_writes o h =
      let a = stg_read-given R in
      let b = write-given h in
      (a.0 ∙ read-inside t cores kinds (length old) o ∙ sym b.0, a.1 ∙ room-inside t cores kinds old o ∙ sym b.1)

  pub kinds_13 : outside t ≡ false → (length kinds ≡ tasks t + 2 → ⊥) → w ≡ Refused (at_0 13)
  kinds_13 o d = (stg_read-given R).0 ∙ kinds-refused t cores kinds (length old) o d

  -- THEOREM. So 23 is given exactly for text outside the layout.
  pub only_outside : {p : ℕ} → w ≡ Refused (record { number = 23; place = p }) → outside t ≡ true
  only_outside {p} e = go (cases (outside t))
    where
      go : (outside t ≡ true) ⊎ (outside t ≡ false) → outside t ≡ true
      go (inl o) = o
      go (inr o) =
          absurd (never_23 (write-answered (says t cores kinds) old) (sym (read-inside t cores kinds (length old) o) ∙ sym (stg_read-given R).0 ∙ e))

  -- THEOREM. What is handed back is the file of the graph that the text says: a vertex for each task, its time and its predecessors, with the lent
  -- cores and kinds.
  pub file-says : {size : ℕ} → w ≡ Wrote-bytes size → GraphSaid t cores kinds (take size new)
  file-says {size} e = rw (stg_read-given R).1 (graph-said t cores kinds old size (sym (stg_read-given R).0 ∙ e))

  -- THEOREM. A refusal leaves the lent bytes.
  pub read_leaves : {r : Refusal} → w ≡ Refused r → new ≡ old
  read_leaves {r} e = (stg_read-given R).1 ∙ read_untouched t cores kinds old r (sym (stg_read-given R).0 ∙ e)

-- ---- writing

module _ {s old new : List ℕ} {w : Wrote} (W : StgWriteGives s old w new) where
  -- THEOREM. Of a file that the reader refuses, writing says no as the reader does. Of an accepted file, 24 at 0 is given exactly where its graph has
  -- fewer than three vertices, another vertex than the first as source, another than the last as sink, or either with a time above 0; then 15 at 0
  -- exactly where the room is below the text's length.
  pub write-first : {x : Taken} {r : Refusal} → ReadGives s x → x.answer ≡ answers.Refused r → w ≡ Refused r
  write-first {r = r} T e = (stg_write-given W).0 ∙ file-refused s (length old) r (sym (ap (λ (x : Taken). x.answer) (read-given T)) ∙ e)

  module _ (ok : IsAccepted s) where
    pub ends_24 : (w ≡ Refused (at_0 24)) ↔ (other_ends_of (read_of s).graph ≡ true)
    ends_24 = go (cases (other_ends_of (read_of s).graph))
      where
        other : other_ends_of (read_of s).graph ≡ false → w ≡ Refused (at_0 24) → ⊥
        other o = never_24 (ltb (length old) (length (text_of (read_of s).graph))) (length (text_of (read_of s).graph)) ((stg_write-given W).0 ∙ ends-accepted s (length old) ok o)

        go : (other_ends_of (read_of s).graph ≡ true) ⊎ (other_ends_of (read_of s).graph ≡ false) → (w ≡ Refused (at_0 24)) ↔ (other_ends_of (read_of s).graph ≡ true)
        go (inl o) = (λ e. o, λ x. (stg_write-given W).0 ∙ ends-refused s (length old) ok o)
        go (inr o) = (λ e. absurd (other o e), λ x. absurd (clash x o))

    pub text-or_15 : other_ends_of (read_of s).graph ≡ false → w ≡ wrote_by answers.Accepted (length (text_of (read_of s).graph)) (length old)
    text-or_15 o = (stg_write-given W).0 ∙ ends-accepted s (length old) ok o

  -- THEOREM. A refusal leaves the lent bytes.
  pub write_leaves : {r : Refusal} → w ≡ Refused r → new ≡ old
  write_leaves {r} e = (stg_write-given W).1 ∙ write_untouched s old r (sym (stg_write-given W).0 ∙ e)

-- ---- the round trips

-- THEOREM. What is written reads back, with the same lists, as the same file: the text of an accepted file, read with the file's cores and kinds and
-- room enough, is that file.
pub stg_reads_back : {s old new room new' : List ℕ} {size : ℕ} {w : Wrote} → Bytes s → StgWriteGives s old (Wrote-bytes size) new
    → StgReadGives (take size new) (cores_for s) (kinds_of s) room w new' → length s ≤ length room → (w ≡ Wrote-bytes (length s)) × (new' ≡ s ++ drop (length s) room)
stg_reads_back {s} {old} {room = room} {size = size} bytes W R m =
    let g = stg_write-given W in
    let b = text-read s old size bytes (sym g.0) in
    let t = ap (take size) g.1 ∙ b.text in
    let r = stg_read-given R in (
      r.0 ∙ ap (λ (x : List ℕ). read_stg_of x (cores_for s) (kinds_of s) (length room)) t ∙ b.answer room m,
      r.1 ∙ rw t (b.file room m),
    )

-- THEOREM. A canonical text that is read, and the file of it written, is the same bytes: one blank between fields, ascending predecessors, no zero
-- before a number and no comments, for any tasks, times and predecessors. Whatever cores and kinds were lent; 24 and 15 alone may say no.
pub stg_writes_back : {t cores kinds old new room new' : List ℕ} {size : ℕ} {w : Wrote} → Canonical t → StgReadGives t cores kinds old (Wrote-bytes size) new
    → StgWriteGives (take size new) room w new'
    → (w ≡ Refused (at_0 24)) ⊎ ((w ≡ Refused (at_0 15)) × (length room < length t)) ⊎ ((w ≡ Wrote-bytes (length t)) × (new' ≡ t ++ drop (length t) room))
unfolding write_room
stg_writes_back {t} {cores} {kinds} {old} {new} {room} {new'} {size} {w} C R W =
    let r = stg_read-given R in
    let b : WrittenBack t (take size new) = rw r.1 (text-written t cores kinds old size C (sym r.0)) in
    let g = stg_write-given W in
    go (take size new) new' (other_ends_of (read_of (take size new)).graph) (ltb (length room) (length t)) refl (g.0 ∙ b.answer (length room))
    (g.1 ∙ ap (λ (x : Wrote). room_by x (text_of (read_of (take size new)).graph) room) (sym g.0)) b.text
  where
    go : (f new' : List ℕ) (o l : Bool) → ltb (length room) (length t) ≡ l
        → w ≡ pick o (Refused (at_0 24)) (pick l (Refused (at_0 15)) (Wrote-bytes (length t))) → new' ≡ room_by w (text_of (read_of f).graph) room → text_of (read_of f).graph ≡ t
        → (w ≡ Refused (at_0 24)) ⊎ ((w ≡ Refused (at_0 15)) × (length room < length t)) ⊎ ((w ≡ Wrote-bytes (length t)) × (new' ≡ t ++ drop (length t) room))
    go f new' true l q e n x = inl e
    go f new' false true q e n x = inr (inl (e, ltb-true (length room) (length t) q))
    go f new' false false q e n x = inr (inr (e, n ∙ rw (e, x) refl))

-- ---- for C and Rust

-- THEOREM. The entries for C give what these give, in numbers.
pub planner_stg_read-is : {t cores kinds old new new' : List ℕ} {p : PlannerCount} {w : Wrote} → PlannerStgReadGives t cores kinds old p new → StgReadGives t cores kinds old w new'
    → (p ≡ coded_wrote_of w) × (new ≡ new')
planner_stg_read-is q h =
    let a = planner_stg_read-given q in let b = stg_read-given h in (a.0 ∙ ap coded_wrote_of (sym b.0), a.1 ∙ sym b.1)

pub planner_stg_write-is : {s old new new' : List ℕ} {p : PlannerCount} {w : Wrote} → PlannerStgWriteGives s old p new → StgWriteGives s old w new' → (p ≡ coded_wrote_of w) × (new ≡ new')
planner_stg_write-is q h =
    let a = planner_stg_write-given q in let b = stg_write-given h in (a.0 ∙ ap coded_wrote_of (sym b.0), a.1 ∙ sym b.1)
