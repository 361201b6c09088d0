-- Mending and the reader's rules.
--
--   stray-is            a stray byte, as one looks for it
--   two_faults          number 2 is given for an unknown kind or a stray byte, and for nothing else
--   accepted-mendable   an accepted file is not refused
--   accepted-none       and needs no mend
--   mended_2, -9, -10   of a mended file: 2 holds nowhere, 9 only where an end is undeclared, 10 nowhere
use mathlib.Core.Path.{◌≡◌, refl, sym, ◌∙◌}
use mathlib.Core.Bool.{Bool, true, false, not, ◌&&◌, ◌||◌}
use mathlib.Core.List.{List}
use Prim.Native.Nat.{ℕ, zero, suc, ◌-◌, ◌≤◌, ◌<◌}
use native.Mathlib.Omega.{arith}
use native.Mathlib.Decide.{ℕ_discrete}
use lib.Dec.{eqb, ltb, leb, lit<, lit≤}
use borrow.Author.Tests.{lt-ltb, ltb-true, leb-true, leb-false, eq-eqb, eqb-true}
use Rattle.model.specs.Places.{any}
use Rattle.model.proofs.Bools.{clash, not-true, both, left-of, right_of, or_neither, or_right, same_test}
use Rattle.graph.specs.File.{records, byte_at, word_at, key_at, order, is_order, many}
use Rattle.graph.specs.Rules.{rule2, rule9, rule10, holds, places}
use Rattle.graph.specs.Judge.{judge_from}
use Rattle.graph.specs.Answer.{Accepted}
use Rattle.graph.proofs.Judging.{none-holds}
use Rattle.mends.specs.Mends.{NoMend, must_be_zero_of, stray_at, stray, is_edge, loop}
use Rattle.mends.specs.Mended.{mended_of}
use Rattle.mends.specs.Answers.{unknown, Mendable}
use Rattle.mends.proofs.Landing.{edge-high, high-edge}
use Rattle.mends.proofs.Tidy.{Tidy, tidy_none}
use Rattle.mends.proofs.Again.{mended-mendable, mended_tidy}

word-zero : (s : List ℕ) (k : ℕ) → eqb (word_at s k) 0 ≡ eqb (byte_at s k 4) 0 && (eqb (byte_at s k 5) 0 && (eqb (byte_at s k 6) 0 && eqb (byte_at s k 7) 0))
unfolding word_at
word-zero s k = same_test (eqb (word_at s k) 0) (four (byte_at s k 4) (byte_at s k 5) (byte_at s k 6) (byte_at s k 7)) there back
  where
    four : ℕ → ℕ → ℕ → ℕ → Bool
    four a b c d = eqb a 0 && (eqb b 0 && (eqb c 0 && eqb d 0))

    all : (a b c d : ℕ) → a ≡ 0 → b ≡ 0 → c ≡ 0 → d ≡ 0 → four a b c d ≡ true
    all a b c d x y z w = rw (x, y, z, w) refl

    there : eqb (word_at s k) 0 ≡ true → four (byte_at s k 4) (byte_at s k 5) (byte_at s k 6) (byte_at s k 7) ≡ true
    there t =
        let e = eqb-true (word_at s k) 0 t in
        all (byte_at s k 4) (byte_at s k 5) (byte_at s k 6) (byte_at s k 7) (omega arith) (omega arith) (omega arith) (omega arith)

    back : four (byte_at s k 4) (byte_at s k 5) (byte_at s k 6) (byte_at s k 7) ≡ true → eqb (word_at s k) 0 ≡ true
    back t =
        let x = eqb-true (byte_at s k 4) 0 (left-of (eqb (byte_at s k 4) 0) (eqb (byte_at s k 5) 0 && (eqb (byte_at s k 6) 0 && eqb (byte_at s k 7) 0)) t) in
        let u = right_of (eqb (byte_at s k 4) 0) (eqb (byte_at s k 5) 0 && (eqb (byte_at s k 6) 0 && eqb (byte_at s k 7) 0)) t in
        let y = eqb-true (byte_at s k 5) 0 (left-of (eqb (byte_at s k 5) 0) (eqb (byte_at s k 6) 0 && eqb (byte_at s k 7) 0) u) in
        let v = right_of (eqb (byte_at s k 5) 0) (eqb (byte_at s k 6) 0 && eqb (byte_at s k 7) 0) u in
        let z = eqb-true (byte_at s k 6) 0 (left-of (eqb (byte_at s k 6) 0) (eqb (byte_at s k 7) 0) v) in
        let w = eqb-true (byte_at s k 7) 0 (right_of (eqb (byte_at s k 6) 0) (eqb (byte_at s k 7) 0) v) in
        eq-eqb (word_at s k) 0 (omega arith)

-- byte 3 isn't 0, or bytes 4 to 7 aren't and it is no vertex
pub stray-is : (s : List ℕ) (k : ℕ) → stray s k ≡ not (eqb (byte_at s k 3) 0) || (not (eqb (order s k) 1) && not (eqb (word_at s k) 0))
unfolding stray any stray_at must_be_zero_of is_order
stray-is s k =
    rw (word-zero s k)
    (go (eqb (byte_at s k 3) 0) (eqb (order s k) 1) (eqb (byte_at s k 4) 0) (eqb (byte_at s k 5) 0) (eqb (byte_at s k 6) 0) (eqb (byte_at s k 7) 0))
  where
    go : (x v a b c d : Bool)
        → (((not x || (not v && not a)) || (not v && not b)) || (not v && not c)) || (not v && not d) ≡ not x || (not v && not (a && (b && (c && d))))
    go false v a b c d = refl
    go true true a b c d = refl
    go true false false b c d = refl
    go true false true false c d = refl
    go true false true true false d = refl
    go true false true true true false = refl
    go true false true true true true = refl

pub two_faults : (s : List ℕ) (k : ℕ) → rule2 s k ≡ unknown s k || stray s k
unfolding rule2 unknown
two_faults s k = rw (stray-is s k) refl

-- ---- an accepted file

-- edges each above the one before it ascend
module _ (s : List ℕ) (ok : Mendable s) (above : (k : ℕ) → k < records s → rule10 s k ≡ false) where
  next-above : (k : ℕ) → suc k < records s → is_edge s k ≡ true → is_edge s (suc k) ≡ true → key_at s k < key_at s (suc k)
  unfolding rule10 is_order
  next-above k l a b =
      let d : suc k - 1 ≡ k = omega arith in
      leb-false (key_at s (suc k)) (key_at s k) (simp (lt-ltb 0 (suc k) (omega arith), d, a, b) at (above (suc k) l))

  pub ascending : (j k : ℕ) → j < k → k < records s → is_edge s j ≡ true → is_edge s k ≡ true → key_at s j < key_at s k
  ascending j zero l b x y = absurd (omega arith)
  ascending j (suc k) l b x y = go (ℕ_discrete j k) (ascending j k)
    where
      edge-between : is_edge s k ≡ true
      edge-between = high-edge s ok k (omega arith) (omega (arith, edge-high s ok j (omega arith) x))

      go : Dec (j ≡ k) → (j < k → k < records s → is_edge s j ≡ true → is_edge s k ≡ true → key_at s j < key_at s k) → key_at s j < key_at s (suc k)
      go (yes e) ih = rw e (next-above k b edge-between y)
      go (no e) ih = omega (arith, ih (omega arith) (omega arith) x edge-between, next-above k b edge-between y)

module _ (s : List ℕ) (yes-read : judge_from 1 s ≡ Accepted) where
  quiet : (num : ℕ) → 1 ≤ num → num < 12 → (k : ℕ) → k < places s num → holds s num k ≡ false
  quiet num f l k d = none-holds 1 s yes-read num f l k d

  spare : (k : ℕ) → k < records s → rule2 s k ≡ false
  unfolding places holds
  spare = quiet 2 (lit≤ tt) (lit< tt)

  pub accepted-mendable : Mendable s
  unfolding places holds
  accepted-mendable =
      record {
        whole = quiet 1 (lit≤ tt) (lit< tt) 0 (lit< tt);
        known = λ k l. (or_neither (unknown s k) (stray s k) (sym (two_faults s k) ∙ spare k l)).0;
        sorted = quiet 3 (lit≤ tt) (lit< tt);
      }

  no_loop : (k : ℕ) → k < records s → loop s k ≡ false
  unfolding places holds rule9 loop is_order
  no_loop k l =
      not-true (loop s k)
      (λ t.
      let e = left-of (is_edge s k) (eqb (byte_at s k 1) (byte_at s k 2)) t in
      let q = right_of (is_edge s k) (eqb (byte_at s k 1) (byte_at s k 2)) t in
      clash (both (is_edge s k) (leb (many s 1) (byte_at s k 1) || (leb (many s 1) (byte_at s k 2) || eqb (byte_at s k 1) (byte_at s k 2))) e (or_right (leb (many s 1) (byte_at s k 1)) (leb (many s 1) (byte_at s k 2) || eqb (byte_at s k 1) (byte_at s k 2)) (or_right (leb (many s 1) (byte_at s k 2)) (eqb (byte_at s k 1) (byte_at s k 2)) q))) (quiet 9 (lit≤ tt) (lit< tt) k l))

  above : (k : ℕ) → k < records s → rule10 s k ≡ false
  unfolding places holds
  above = quiet 10 (lit≤ tt) (lit< tt)

  pub accepted_tidy : Tidy s
  accepted_tidy =
      record {
        clean = λ k l. (or_neither (unknown s k) (stray s k) (sym (two_faults s k) ∙ spare k l)).1;
        straight = no_loop;
        ascending = ascending s accepted-mendable above;
      }

  pub accepted-none : NoMend s
  accepted-none = tidy_none s accepted_tidy

-- ---- the mended file

module _ (s : List ℕ) (ok : Mendable s) (k : ℕ) (l : k < records (mended_of s)) where
  pub mended_2 : rule2 (mended_of s) k ≡ false
  mended_2 = two_faults (mended_of s) k ∙ rw ((mended-mendable s ok).known k l, (mended_tidy s ok).clean k l) refl

  pub mended_9 : rule9 (mended_of s) k ≡ is_edge (mended_of s) k && (leb (many (mended_of s) 1) (byte_at (mended_of s) k 1) || leb (many (mended_of s) 1) (byte_at (mended_of s) k 2))
  unfolding rule9 loop is_order
  mended_9 = go (eqb (order (mended_of s) k) 2) (leb (many (mended_of s) 1) (byte_at (mended_of s) k 1)) (leb (many (mended_of s) 1) (byte_at (mended_of s) k 2)) (eqb (byte_at (mended_of s) k 1) (byte_at (mended_of s) k 2)) ((mended_tidy s ok).straight k l)
    where
      go : (e x y q : Bool) → e && q ≡ false → e && (x || (y || q)) ≡ e && (x || y)
      go false x y q h = refl
      go true true y q h = refl
      go true false true q h = refl
      go true false false q h = h

  pub mended_10 : rule10 (mended_of s) k ≡ false
  unfolding rule10 is_order
  mended_10 =
      not-true (rule10 (mended_of s) k)
      (λ t.
      let p = ltb-true 0 k (left-of (ltb 0 k) (eqb (order (mended_of s) k) 2 && (eqb (order (mended_of s) (k - 1)) 2 && leb (key_at (mended_of s) k) (key_at (mended_of s) (k - 1)))) t) in
      let u = right_of (ltb 0 k) (eqb (order (mended_of s) k) 2 && (eqb (order (mended_of s) (k - 1)) 2 && leb (key_at (mended_of s) k) (key_at (mended_of s) (k - 1)))) t in
      let a = left-of (eqb (order (mended_of s) k) 2) (eqb (order (mended_of s) (k - 1)) 2 && leb (key_at (mended_of s) k) (key_at (mended_of s) (k - 1))) u in
      let v = right_of (eqb (order (mended_of s) k) 2) (eqb (order (mended_of s) (k - 1)) 2 && leb (key_at (mended_of s) k) (key_at (mended_of s) (k - 1))) u in
      let b = left-of (eqb (order (mended_of s) (k - 1)) 2) (leb (key_at (mended_of s) k) (key_at (mended_of s) (k - 1))) v in
      let w = leb-true (key_at (mended_of s) k) (key_at (mended_of s) (k - 1)) (right_of (eqb (order (mended_of s) (k - 1)) 2) (leb (key_at (mended_of s) k) (key_at (mended_of s) (k - 1))) v) in
      omega (arith, (mended_tidy s ok).ascending (k - 1) k (omega arith) l b a))
