-- Order 12, "Mend hand-edited files": "Scripts leave stray bytes, doubles and edges out of order. Write a mended file into one lent buffer and a list of
-- what was done into another."
--
-- Said over the contract of the entry `mend` (specs/Entries). The four mends, the mended file and the list are functions of the file's bytes, defined in
-- `mends`, specs/Mends, Mended and Listed; what each keeps is in its specs/Kept.
use mathlib.Core.Path.{◌≡◌, refl, sym, ap, ◌∙◌}
use mathlib.Core.Bool.{Bool, true, false, ◌&&◌}
use mathlib.Core.Logic.{◌⊎◌, inl, inr}
use mathlib.Core.List.{List, ◌++◌}
use Prim.Native.Nat.{ℕ, ◌*◌, ◌≤◌, ◌<◌}
use native.Mathlib.Omega.{arith}
use lib.ListN.{length, drop}
use Rattle.model.specs.Places.{first, Tells}
use Rattle.model.proofs.Bools.{cases, le-or-lt}
use Rattle.model.proofs.Places.{first_below, first-here}
use Rattle.graph.specs.File.{records}
use Rattle.graph.specs.Rules.{rule1, rule3}
use Rattle.graph.specs.Judge.{read_of, judge_from}
use Rattle.graph.specs.declared.Refusal.{Refusal}
use Rattle.graph.specs.Answer.{Taken}
use Rattle.graph.specs.Answer as answers
use Rattle.mends.specs.Mends.{Mend, due, is_edge, loop, double, stays, kept, NoMend}
use Rattle.mends.specs.Mended.{place, mended_of}
use Rattle.mends.specs.Listed.{list_of, Says, Before}
use Rattle.mends.specs.Redo.{listed, redo}
use Rattle.mends.specs.Answers.{unknown, Mendable, mend_of, file_after, list_after_of, Same}
use Rattle.mends.specs.Kept.{KeptEdge, Standing, Untouched, Found, Above}
use Rattle.mends.specs.Repairable.{Repairable}
use Rattle.mends.specs.Answers.{Mended}
use Rattle.mends.specs.Answers.{Lengths, Refused}
use Rattle.mends.proofs.Answering.{refused_1, refused_2, refused_3, refused_15, mended, leaves_file, leaves_list, holds-file, holds-list, unchanged, again, accepted_unchanged}
use Rattle.mends.proofs.Ends.{kept-tells}
use Rattle.mends.proofs.Unchanged as keeps
use Rattle.mends.proofs.Again.{origin}
use Rattle.mends.proofs.Listing.{listed-is, list-short}
use Rattle.mends.proofs.Ordered as ordered
use Rattle.mends.proofs.Redone.{redone}
use Rattle.mends.proofs.Carried.{mended-accepted}
use Rattle.codes.specs.Coded.{coded_mend_of}
use Rattle.codes.specs.declared.PlannerMended.{PlannerMended}
use Rattle.claims.specs.Claims.{Bytes, IsAccepted, at_0, MendAnswered}
use Rattle.claims.specs.Claims as claims
use Rattle.claims.specs.Entries.{ReadGives, MendGives, PlannerMendGives}
use Rattle.claims.proofs.Entries.{read-given, mend-given, planner_mend-given}

-- ---- the answer, and the buffers

-- THEOREM. Every file gets one of these answers (`MendAnswered` in specs/Claims): "1, 2 for an unknown kind only, 3, then 15 when the mended buffer is
-- shorter than the input or the list has under 16 bytes for each input record", with its place; a refusal leaves both buffers. Otherwise the mended file
-- and the list stand at the front of theirs, and past them what stood there.
pub mend-answered : {s old list new list' : List ℕ} {m : Mended} → MendGives s old list m new list' → MendAnswered s old list m new list'
mend-answered {s} {old} {list} {new} {list'} {m} M = whole (cases (rule1 s))
  where
    given : (m ≡ mend_of s (length old) (length list)) × (new ≡ file_after s old list) × (list' ≡ list_after_of s old list)
    given = mend-given M

    says-no : (r : Refusal) → mend_of s (length old) (length list) ≡ Refused r → MendAnswered s old list (Refused r) old list → MendAnswered s old list m new list'
    says-no r e h = rw (given.0, given.1, given.2, e, leaves_file s old list r e, leaves_list s old list r e) h

    rooms : Mendable s → (length old < length s) ⊎ (length s ≤ length old) → (length list < 16 * records s) ⊎ (16 * records s ≤ length list)
        → MendAnswered s old list m new list'
    rooms ok (inl a) b = says-no (at_0 15) (refused_15 s (length old) (length list) ok (inl a)) (claims.narrow ok (inl a))
    rooms ok (inr a) (inl b) = says-no (at_0 15) (refused_15 s (length old) (length list) ok (inr b)) (claims.narrow ok (inr b))
    rooms ok (inr a) (inr b) =
        rw (given.0, given.1, given.2, mended s (length old) (length list) ok a b, holds-file s old list ok a b, holds-list s old list ok a b)
        (claims.mended ok a b)

    swap : {a b : ℕ} → (a ≤ b) ⊎ (b < a) → (b < a) ⊎ (a ≤ b)
    swap (inl h) = inr h
    swap (inr h) = inl h

    in_order : rule1 s ≡ false → ((j : ℕ) → j < records s → unknown s j ≡ false) → (records s ≤ first (rule3 s) (records s)) ⊎ (first (rule3 s) (records s) < records s)
        → MendAnswered s old list m new list'
    in_order w known (inl h) =
        rooms (record { whole = w; known = known; sorted = λ k l. first_below (rule3 s) (records s) k (omega arith) })
        (swap (le-or-lt (length s) (length old))) (swap (le-or-lt (16 * records s) (length list)))
    in_order w known (inr h) =
        let k = first (rule3 s) (records s) in
        let here = first-here (rule3 s) (records s) h in
        let before = first_below (rule3 s) (records s) in
        says-no (record { number = 3; place = k }) (refused_3 s (length old) (length list) k w known h before here) (claims.out_of_order w known h here before)

    of-kinds : rule1 s ≡ false → (records s ≤ first (unknown s) (records s)) ⊎ (first (unknown s) (records s) < records s) → MendAnswered s old list m new list'
    of-kinds w (inl h) =
        in_order w (λ j l. first_below (unknown s) (records s) j (omega arith)) (le-or-lt (records s) (first (rule3 s) (records s)))
    of-kinds w (inr h) =
        let k = first (unknown s) (records s) in
        let here = first-here (unknown s) (records s) h in
        let before = first_below (unknown s) (records s) in
        says-no (record { number = 2; place = k }) (refused_2 s (length old) (length list) k w h before here) (claims.of_no_kind w h here before)

    whole : (rule1 s ≡ true) ⊎ (rule1 s ≡ false) → MendAnswered s old list m new list'
    whole (inl w) = says-no (at_0 1) (refused_1 s (length old) (length list) w) (claims.uneven w)
    whole (inr w) = of-kinds w (le-or-lt (records s) (first (unknown s) (records s)))

-- ---- which records stand in the mended file, and where

module _ {s : List ℕ} (ok : Mendable s) where
  -- THEOREM. Types and vertices stand where they stood, as they stood but for cleared bytes.
  pub types-and-vertices : (k : ℕ) → k < records s → is_edge s k ≡ false → Standing s k × (place s k ≡ k)
  types-and-vertices k l e = let h = keeps.head-place s ok k e in (keeps.standing s ok k l h.0, h.1)

  -- THEOREM. A kept edge stands in the mended file, as it stood but for cleared bytes; and nothing else does: every record of it is one that was not dropped.
  pub kept-stand : (k : ℕ) → k < records s → kept s k ≡ true → Standing s k
  kept-stand k l e = keeps.standing s ok k l (keeps.kept-place s ok k e).0

  pub nothing_else : (i : ℕ) → i < records (mended_of s) → (k : ℕ) × (k < records s) × (stays s k ≡ true) × (place s k ≡ i)
  nothing_else i l = let o = origin s ok i l in (o.number, o.within, o.stayed, o.put)

  -- THEOREM. The kept edges: the first of its ends, and not from a vertex to itself. They ascend in the mended file, and no edge but one from a vertex to
  -- itself is lost: another with its ends is there.
  pub kept-edges : Bytes s → Tells (records s) (KeptEdge s) (kept s)
  kept-edges b = kept-tells s b

  pub kept_ascend : Bytes s → (i j : ℕ) → i < j → j < records (mended_of s) → is_edge (mended_of s) i ≡ true → is_edge (mended_of s) j ≡ true → Above (mended_of s) i j
  kept_ascend b = keeps.ascends s ok b

  pub no-edge_lost : Bytes s → (k : ℕ) → k < records s → is_edge s k ≡ true → loop s k ≡ false → (i : ℕ) × Found s k i
  no-edge_lost b = keeps.no-edge_lost s ok b

  -- THEOREM. "No other byte changes": a record to which no mend is done has its bytes, and an edge its place among the kept ones.
  pub untouched : (k : ℕ) → k < records s → ((m : Mend) → due s m k ≡ false) → Untouched s k
  untouched = keeps.untouched s ok

  -- ---- the list

  -- THEOREM. The list has each mend that is done, and none that is not: of a dropped record its C too.
  pub listed_exactly : (m : Mend) (k : ℕ) → k < records s → listed (list_of s) m k ≡ due s m k
  listed_exactly = listed-is s

  -- THEOREM. Each record of the list says a mend that is done, in 8 bytes, its letter, the record's number low byte first, and zeros. They are "ordered by
  -- record number, then C, D, X, M", so that "a record has one entry of a letter at most".
  pub entries_say : (e : ℕ) → e < records (list_of s) → (m : Mend) × (k : ℕ) × (k < records s) × (due s m k ≡ true) × Says s e m k
  entries_say = ordered.entry_found s

  pub entries-ordered : (e i : ℕ) → e < i → i < records (list_of s) → (m n : Mend) (k l : ℕ) → Says s e m k → Says s i n l → Before k m l n
  entries-ordered = ordered.entries_ascend s

  pub one-of_a_letter : (e i : ℕ) → e < i → i < records (list_of s) → (m : Mend) (k : ℕ) → Says s e m k → Says s i m k → ⊥
  one-of_a_letter e i l h m k p q = apart (entries-ordered e i l h m m k k p q)
    where
      apart : Before k m k m → ⊥
      apart (inl x) = omega arith
      apart (inr x) = omega (arith, x.1)

  -- THEOREM. Nothing unlisted happened: from the input and the list alone the mended file is made again.
  pub made_again : redo s (list_of s) ≡ mended_of s
  made_again = redone s ok

-- THEOREM. 16 bytes for each record of the file are always enough for the list.
pub list-fits : (s : List ℕ) → length (list_of s) ≤ 16 * records s
list-fits = list-short

-- THEOREM. "An edge from a vertex to itself is always D, never X."
pub never_x : (s : List ℕ) (k : ℕ) → loop s k ≡ true → double s k ≡ false
unfolding double
never_x s k e = rw e (no-double (is_edge s k))
  where
    no-double : (b : Bool) → b && false ≡ false
    no-double true = refl
    no-double false = refl

-- ---- files that need no mend, mending again, and the reader

module _ {s old list new list' : List ℕ} {m : Mended} (M : MendGives s old list m new list') (a : length s ≤ length old) (b : 16 * records s ≤ length list) where
  same : {f : List ℕ} → Same s old list f → (m ≡ Lengths (record { file = length f; list = 0 })) × (new ≡ f ++ drop (length f) old) × (list' ≡ list)
  same h = let g = mend-given M in (g.0 ∙ h.answer, g.1 ∙ h.file_holds, g.2 ∙ h.list_holds)

  -- THEOREM. "A file needing no mend returns unchanged with an empty list", and so does every file that the reader accepts.
  pub needing_none : Mendable s → NoMend s → (m ≡ Lengths (record { file = length s; list = 0 })) × (new ≡ s ++ drop (length s) old) × (list' ≡ list)
  needing_none ok none = same (unchanged s old list ok none a b)

  pub accepted-none : IsAccepted s → (m ≡ Lengths (record { file = length s; list = 0 })) × (new ≡ s ++ drop (length s) old) × (list' ≡ list)
  unfolding read_of
  accepted-none ok = same (accepted_unchanged s old list ok a b)

-- THEOREM. "Mending the result again does nothing."
pub mending_again : {s old list new list' : List ℕ} {m : Mended} → Mendable s → MendGives (mended_of s) old list m new list' → length s ≤ length old
    → 16 * records s ≤ length list → (m ≡ Lengths (record { file = length (mended_of s); list = 0 })) × (new ≡ mended_of s ++ drop (length (mended_of s)) old) × (list' ≡ list)
mending_again {s} {old} {list} ok M a b = let g = mend-given M in let h = again s old list ok a b in (g.0 ∙ h.answer, g.1 ∙ h.file_holds, g.2 ∙ h.list_holds)

-- THEOREM. Where the only faults of a file are these four, the reader accepts the mended file.
pub mended-read : {s : List ℕ} {t : Taken} → Bytes s → Repairable s → ReadGives (mended_of s) t → t.answer ≡ answers.Accepted
unfolding read_of
mended-read {s} b fit R = ap (λ (x : Taken). x.answer) (read-given R) ∙ mended-accepted s fit b

-- ---- the entry for C and Rust

-- THEOREM. It gives the same, in numbers: 0 and 0 where nothing is refused, and the two lengths, which are 0 beside a refusal.
pub planner_mend-is : {s old list new list' new'' list'' : List ℕ} {p : PlannerMended} {m : Mended} → PlannerMendGives s old list p new list'
    → MendGives s old list m new'' list'' → (p ≡ coded_mend_of m) × (new ≡ new'') × (list' ≡ list'')
planner_mend-is q h =
    let a = planner_mend-given q in let b = mend-given h in (a.0 ∙ ap coded_mend_of (sym b.0), a.1 ∙ sym b.1, a.2 ∙ sym b.2)
