-- When each number is given, and in which order; and that a refusal leaves the lent room as it was.
use mathlib.Core.Path.{◌≡◌, refl}
use mathlib.Core.Bool.{Bool, true, false}
use mathlib.Core.List.{List}
use mathlib.Core.Logic.{◌⊎◌, inl, inr}
use Prim.Native.Nat.{ℕ, ◌+◌, ◌≤◌}
use native.Mathlib.Omega.{arith}
use lib.ListN.{length}
use lib.Dec.{ltb}
use borrow.Author.Tests.{ne_eqb, ltb-true}
use Rattle.model.specs.Places.{pick, first}
use Rattle.model.proofs.Bools.{or_cases}
use Rattle.model.proofs.Places.{first_below, first-here}
use Rattle.model.proofs.Tables.{table-length}
use Rattle.graph.specs.Judge.{read_of}
use Rattle.graph.specs.Answer as answers
use Rattle.graph.specs.declared.Refusal.{Refusal}
use Rattle.writer.specs.Write.{wrote_by, wrote_of}
use Rattle.writer.specs.Wrote.{Refused}
use Rattle.stg_text.specs.Layout.{tasks, faulty, lines_due, fault_at, LIMIT, outside, fault_of}
use Rattle.stg_text.specs.Says.{wcet_said, wcets_of, says}
use Rattle.stg_text.specs.Canonical.{text_of}
use Rattle.stg_text.specs.Answers.{read_stg_of, read_room, other_ends_of, write_of, write_stg_of, write_room}
use Rattle.stg_text.specs.Refusals.{AtFault}

-- ---- reading

-- 23 comes first, for each text outside the layout, whatever is lent beside it
pub outside-refused : (s cores kinds : List ℕ) (room : ℕ) → outside s ≡ true → read_stg_of s cores kinds room ≡ Refused (record { number = 23; place = fault_of s })
unfolding read_stg_of
outside-refused s cores kinds room e = rw e refl

-- and it names the first line at fault
pub outside-first : (s : List ℕ) → length s ≤ LIMIT → outside s ≡ true → AtFault s (fault_of s)
unfolding outside fault_of fault_at
outside-first s l e = go (or_cases (ltb LIMIT (length s)) (ltb (first (faulty s) (lines_due s)) (lines_due s)) e)
  where
    go : (ltb LIMIT (length s) ≡ true) ⊎ (ltb (first (faulty s) (lines_due s)) (lines_due s) ≡ true) → AtFault s (pick (ltb LIMIT (length s)) 0 (first (faulty s) (lines_due s)))
    go (inl x) = absurd (omega (arith, ltb-true LIMIT (length s) x))
    go (inr x) =
        let b = ltb-true (first (faulty s) (lines_due s)) (lines_due s) x in
        rw (short (ltb LIMIT (length s)) refl) (record { within = b; here = first-here (faulty s) (lines_due s) b; not_before = λ j h. first_below (faulty s) (lines_due s) j h })
      where
        short : (b : Bool) → ltb LIMIT (length s) ≡ b → ltb LIMIT (length s) ≡ false
        short true q = absurd (omega (arith, ltb-true LIMIT (length s) q))
        short false q = q

-- 13 comes next, where the list of kinds has not n + 2 places
pub kinds-refused : (s cores kinds : List ℕ) (room : ℕ) → outside s ≡ false → (length kinds ≡ tasks s + 2 → ⊥) → read_stg_of s cores kinds room ≡ Refused (record { number = 13; place = 0 })
unfolding read_stg_of wrote_of says wcets_of
kinds-refused s cores kinds room e d = rw (e, table-length (wcet_said s) (tasks s + 2), ne_eqb (length kinds) (tasks s + 2) d) refl

-- a refusal leaves what was lent
pub read_untouched : (s cores kinds out : List ℕ) (r : Refusal) → read_stg_of s cores kinds (length out) ≡ Refused r → read_room s cores kinds out ≡ out
unfolding read_room
read_untouched s cores kinds out r e = rw e refl

-- ---- writing

-- 1 to 11 come first, as the reader of the file says them
pub file-refused : (s : List ℕ) (room : ℕ) (r : Refusal) → (read_of s).answer ≡ answers.Refused r → write_stg_of s room ≡ Refused r
unfolding write_stg_of
file-refused s room r e = rw e refl

-- then 24, for each accepted graph that has other ends, and for no other
pub ends-refused : (s : List ℕ) (room : ℕ) → (read_of s).answer ≡ answers.Accepted → other_ends_of (read_of s).graph ≡ true → write_stg_of s room ≡ Refused (record { number = 24; place = 0 })
unfolding write_stg_of write_of
ends-refused s room a e = rw (a, e) refl

-- then 15, else the text's length
pub ends-accepted : (s : List ℕ) (room : ℕ) → (read_of s).answer ≡ answers.Accepted → other_ends_of (read_of s).graph ≡ false
    → write_stg_of s room ≡ wrote_by answers.Accepted (length (text_of (read_of s).graph)) room
unfolding write_stg_of write_of
ends-accepted s room a e = rw (a, e) refl

pub write_untouched : (s out : List ℕ) (r : Refusal) → write_stg_of s (length out) ≡ Refused r → write_room s out ≡ out
unfolding write_room
write_untouched s out r e = rw e refl
