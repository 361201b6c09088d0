-- The order's sentences over the answer of `mend` and the two buffers.
--
--   judged-mendable, mendable-judged   no number up to 3 is given exactly where none of the three applies
--   refused_1, -2, -3, -15             each number, with its place, where no lower one applies
--   mended                             else the lengths of the mended file and of the list
--   leaves_file, leaves_list           beside a refusal both buffers hold what they held
--   holds-file, holds-list             on success each holds its answer, and past it what it held
--   unchanged                          a file that needs no mend comes back unchanged, with an empty list
--   again                              mending the result again does nothing
--   accepted_unchanged                 a file that the reader accepts comes back unchanged, with an empty list
use mathlib.Core.Path.{◌≡◌, refl, ◌∙◌}
use mathlib.Core.Logic.{◌⊎◌, inl, inr}
use mathlib.Core.Bool.{Bool, true, false, ◌||◌}
use mathlib.Core.List.{List, ◌++◌}
use Prim.Native.Nat.{ℕ, ◌*◌, ◌≤◌, ◌<◌}
use native.Mathlib.Omega.{arith}
use lib.Dec.{ltb}
use lib.ListN.{length, drop}
use borrow.Author.Tests.{lt-ltb, le-ltb, ltb-false}
use Rattle.model.specs.Places.{pick, first}
use Rattle.model.proofs.Bools.{or_left, or_right}
use Rattle.model.proofs.Places.{first-at, first-none, first_below, count-le}
use Rattle.graph.specs.File.{records}
use Rattle.graph.specs.Rules.{rule1, rule3}
use Rattle.graph.specs.Judge.{judge_from}
use Rattle.graph.specs.Answer.{Answer}
use Rattle.graph.specs.Answer as answers
use Rattle.graph.specs.declared.Refusal.{Refusal}
use Rattle.mends.specs.Mends.{NoMend, stays}
use Rattle.mends.specs.Mended.{mended_of}
use Rattle.mends.specs.Listed.{list_of}
use Rattle.mends.specs.Answers.{unknown, refused_at, judge_mend, Mendable, tight, mend_of, file_after, list_after_of, Same}
use Rattle.mends.specs.Answers.{Lengths, Refused}
use Rattle.mends.proofs.Tidy.{list-empty, file-kept, whole-records}
use Rattle.mends.proofs.Again.{mended-length, mended-mendable, again_none}
use Rattle.mends.proofs.Reader.{accepted-mendable, accepted-none}

abbrev pub refusal : ℕ → ℕ → Refusal
refusal number place = record { number = number; place = place }

-- ---- the search for a record at fault

none-at : (num : ℕ) (p : ℕ → Bool) (n : ℕ) (x : Answer) → ((k : ℕ) → k < n → p k ≡ false) → refused_at num p n x ≡ x
none-at num p n x h = rw (first-none p n h, le-ltb n n (omega arith)) refl

found_at : (num : ℕ) (p : ℕ → Bool) (n : ℕ) (x : Answer) (k : ℕ) → k < n → ((j : ℕ) → j < k → p j ≡ false) → p k ≡ true
    → refused_at num p n x ≡ answers.Refused (refusal num k)
found_at num p n x k l before here = rw (first-at p n k l before here, lt-ltb k n l) refl

-- where the search comes to an acceptance, it found none
passed : (num : ℕ) (p : ℕ → Bool) (n : ℕ) (x : Answer) → refused_at num p n x ≡ answers.Accepted
    → ((k : ℕ) → k < n → p k ≡ false) × (x ≡ answers.Accepted)
passed num p n x h = go (ltb (first p n) n) refl h
  where
    go : (b : Bool) → ltb (first p n) n ≡ b → pick b (answers.Refused (refusal num (first p n))) x ≡ answers.Accepted
        → ((k : ℕ) → k < n → p k ≡ false) × (x ≡ answers.Accepted)
    go true e q = absurd (let z : ◌≡◌ {A = ℕ} 0 1 = cc in omega arith)
    go false e q = (λ k l. first_below p n k (omega (arith, ltb-false (first p n) n e)), q)

pub mendable-judged : (s : List ℕ) → Mendable s → judge_mend s ≡ answers.Accepted
unfolding judge_mend
mendable-judged s ok =
    rw ok.whole
    (none-at 2 (unknown s) (records s) (refused_at 3 (rule3 s) (records s) answers.Accepted) ok.known ∙ none-at 3 (rule3 s) (records s) answers.Accepted ok.sorted)

pub judged-mendable : (s : List ℕ) → judge_mend s ≡ answers.Accepted → Mendable s
unfolding judge_mend
judged-mendable s h = go (rule1 s) refl h
  where
    go : (b : Bool) → rule1 s ≡ b
        → pick b (answers.Refused (refusal 1 0)) (refused_at 2 (unknown s) (records s) (refused_at 3 (rule3 s) (records s) answers.Accepted)) ≡ answers.Accepted
        → Mendable s
    go true e q = absurd (let z : ◌≡◌ {A = ℕ} 0 1 = cc in omega arith)
    go false e q =
        let a = passed 2 (unknown s) (records s) (refused_at 3 (rule3 s) (records s) answers.Accepted) q in
        let b = passed 3 (rule3 s) (records s) answers.Accepted a.1 in
        record { whole = e; known = a.0; sorted = b.0 }

-- ---- each number

pub refused_1 : (s : List ℕ) (room listRoom : ℕ) → rule1 s ≡ true → mend_of s room listRoom ≡ Refused (refusal 1 0)
unfolding mend_of judge_mend
refused_1 s room listRoom h = rw h refl

pub refused_2 : (s : List ℕ) (room listRoom k : ℕ) → rule1 s ≡ false → k < records s → ((j : ℕ) → j < k → unknown s j ≡ false) → unknown s k ≡ true
    → mend_of s room listRoom ≡ Refused (refusal 2 k)
unfolding mend_of judge_mend
refused_2 s room listRoom k w l before here =
    rw (w, first-at (unknown s) (records s) k l before here, lt-ltb k (records s) l) refl

pub refused_3 : (s : List ℕ) (room listRoom k : ℕ) → rule1 s ≡ false → ((j : ℕ) → j < records s → unknown s j ≡ false) → k < records s
    → ((j : ℕ) → j < k → rule3 s j ≡ false) → rule3 s k ≡ true → mend_of s room listRoom ≡ Refused (refusal 3 k)
unfolding mend_of judge_mend
refused_3 s room listRoom k w known l before here =
    rw (w, first-none (unknown s) (records s) known, le-ltb (records s) (records s) (omega arith), first-at (rule3 s) (records s) k l before here, lt-ltb k (records s) l) refl

pub refused_15 : (s : List ℕ) (room listRoom : ℕ) → Mendable s → (room < length s) ⊎ (listRoom < 16 * records s)
    → mend_of s room listRoom ≡ Refused (refusal 15 0)
unfolding mend_of tight
refused_15 s room listRoom ok h = rw (mendable-judged s ok, small h) refl
  where
    small : (room < length s) ⊎ (listRoom < 16 * records s) → ltb room (length s) || ltb listRoom (16 * records s) ≡ true
    small (inl l) = or_left (ltb room (length s)) (ltb listRoom (16 * records s)) (lt-ltb room (length s) l)
    small (inr l) = or_right (ltb room (length s)) (ltb listRoom (16 * records s)) (lt-ltb listRoom (16 * records s) l)

pub mended : (s : List ℕ) (room listRoom : ℕ) → Mendable s → length s ≤ room → 16 * records s ≤ listRoom
    → mend_of s room listRoom ≡ Lengths (record { file = length (mended_of s); list = length (list_of s) })
unfolding mend_of tight
mended s room listRoom ok a b =
    rw (mendable-judged s ok, le-ltb room (length s) a, le-ltb listRoom (16 * records s) b) refl

-- ---- the buffers

module _ (s room list : List ℕ) where
  pub leaves_file : (r : Refusal) → mend_of s (length room) (length list) ≡ Refused r → file_after s room list ≡ room
  unfolding file_after
  leaves_file r h = rw h refl

  pub leaves_list : (r : Refusal) → mend_of s (length room) (length list) ≡ Refused r → list_after_of s room list ≡ list
  unfolding list_after_of
  leaves_list r h = rw h refl

  module _ (ok : Mendable s) (a : length s ≤ length room) (b : 16 * records s ≤ length list) where
    pub holds-file : file_after s room list ≡ mended_of s ++ drop (length (mended_of s)) room
    unfolding file_after
    holds-file = rw (mended s (length room) (length list) ok a b) refl

    pub holds-list : list_after_of s room list ≡ list_of s ++ drop (length (list_of s)) list
    unfolding list_after_of
    holds-list = rw (mended s (length room) (length list) ok a b) refl

pub unchanged : (s room list : List ℕ) → Mendable s → NoMend s → length s ≤ length room → 16 * records s ≤ length list → Same s room list s
unchanged s room list ok none a b =
    let f = file-kept s ok none in
    let e = list-empty s none in
    record {
      answer = mended s (length room) (length list) ok a b ∙ rw (f, e) refl;
      file_holds = holds-file s room list ok a b ∙ rw f refl;
      list_holds = holds-list s room list ok a b ∙ rw e refl;
    }

pub again : (s room list : List ℕ) → Mendable s → length s ≤ length room → 16 * records s ≤ length list → Same (mended_of s) room list (mended_of s)
again s room list ok a b =
    let n = count-le (stays s) (records s) in
    unchanged (mended_of s) room list (mended-mendable s ok) (again_none s ok) (omega (arith, mended-length s, whole-records s ok.whole)) (omega (arith, mended-length s))

pub accepted_unchanged : (s room list : List ℕ) → judge_from 1 s ≡ answers.Accepted → length s ≤ length room → 16 * records s ≤ length list → Same s room list s
accepted_unchanged s room list y a b = unchanged s room list (accepted-mendable s y) (accepted-none s y) a b
