-- A tidy file has no stray byte, no edge from a vertex to itself, and its edges ascend. It needs no mend, and a file that needs none is
-- its own mended file, with an empty list.
--
--   tidy_none        a tidy file needs no mend
--   list-empty       where no mend is due the list is empty
--   file-kept        and the file is unchanged
use mathlib.Core.Path.{◌≡◌, refl, sym, ap, ◌∙◌}
use mathlib.Core.Logic.{◌⊎◌, inl, inr, ⊎_elim}
use mathlib.Core.Bool.{Bool, true, false, not, ◌&&◌, and-true}
use mathlib.Core.List.{List, []}
use Prim.Native.Nat.{ℕ, zero, suc, ◌+◌, ◌*◌, ◌%◌, ◌≤◌, ◌<◌}
use native.Mathlib.Omega.{arith}
use lib.Dec.{eqb, ltb}
use lib.ListN.{length}
use borrow.Author.Tests.{eqb-true, eqb-false, not-false}
use Rattle.model.specs.Places.{pick, bit, count, any}
use Rattle.model.proofs.Bools.{clash, cases, not-true, true-not, not-is-true, both, left-of, right_of, or_neither}
use Rattle.model.proofs.Places.{count_ext, count_split, count-all, any_elim, any_false}
use Rattle.graph.specs.File.{records, byte_at, key_at}
use Rattle.graph.specs.Rules.{rule1}
use Rattle.mends.specs.Mends.{Mend, clear, drop_loop, drop_double, move, due, NoMend, must_be_zero_of, stray_at, stray, is_edge, loop, has_same_ends, double, stays, kept, seat, rank, moved}
use Rattle.mends.specs.Mended.{no_edge, heads, place, source, byte_from, everywhere, mended_of}
use Rattle.mends.specs.Listed.{entry_if, entries, list_up_to, list_of}
use Rattle.mends.specs.Answers.{Mendable}
use Rattle.mends.proofs.Ranking.{rank-seat, count_cut}
use Rattle.mends.proofs.Landing.{rank_is, place-edge, place-head, source-place, heads-first, edge-high, kept-edge}
use Rattle.mends.proofs.Built.{same-file, built-length, built-byte}

pub record Tidy (s : List ℕ) : Type 0 where
  pub clean : (k : ℕ) → k < records s → stray s k ≡ false
  pub straight : (k : ℕ) → k < records s → loop s k ≡ false
  pub ascending : (j k : ℕ) → j < k → k < records s → is_edge s j ≡ true → is_edge s k ≡ true → key_at s j < key_at s k

pub tidy_none : (s : List ℕ) → Tidy s → NoMend s
tidy_none s t clear k l = t.clean k l
tidy_none s t drop_loop k l = t.straight k l
tidy_none s t drop_double k l = no-double
  where
    no-double : double s k ≡ false
    no-double = unfold double has_same_ends in
        not-true (double s k)
        (λ e.
        let ek = left-of (is_edge s k) (not (loop s k) && any (has_same_ends s k) k) e in
        let an = right_of (not (loop s k)) (any (has_same_ends s k) k) (right_of (is_edge s k) (not (loop s k) && any (has_same_ends s k) k) e) in
        let r = any_elim (has_same_ends s k) k an in
        let j = r.0 in
        omega (arith, t.ascending j k r.1 l (left-of (is_edge s j) (eqb (key_at s j) (key_at s k)) r.2) ek, eqb-true (key_at s j) (key_at s k) (right_of (is_edge s j) (eqb (key_at s j) (key_at s k)) r.2)))
tidy_none s t move k l = not-moved
  where
    seated : kept s k ≡ true → seat s k ≡ rank s k
    seated e = unfold seat in
        sym (rank_is s k ∙ rank-seat (kept s) (key_at s) (records s) (λ i j a b x y. t.ascending i j a b (kept-edge s i x) (kept-edge s j y)) k l e)

    not-moved : moved s k ≡ false
    not-moved = unfold moved in
        not-true (moved s k)
        (λ e.
        let x = left-of (kept s k) (not (eqb (seat s k) (rank s k))) e in
        let y = not-is-true (eqb (seat s k) (rank s k)) (right_of (kept s k) (not (eqb (seat s k) (rank s k))) e) in
        eqb-false (seat s k) (rank s k) y (seated x))

pub none-entry : (s : List ℕ) (m : Mend) (k : ℕ) → due s m k ≡ false → entry_if s m k ≡ []
unfolding entry_if
none-entry s m k e = rw e refl

list-none : (s : List ℕ) → NoMend s → (n : ℕ) → n ≤ records s → list_up_to s n ≡ []
unfolding list_up_to entries
list-none s h zero l = refl
list-none s h (suc k) l =
    rw (list-none s h k (omega arith), none-entry s clear k (h clear k (omega arith)), none-entry s drop_loop k (h drop_loop k (omega arith)), none-entry s drop_double k (h drop_double k (omega arith)), none-entry s move k (h move k (omega arith)))
    refl

pub list-empty : (s : List ℕ) → NoMend s → list_of s ≡ []
unfolding list_of
list-empty s h = list-none s h (records s) (omega arith)

-- a record with no stray byte is cleared already
pub clean_byte : (s : List ℕ) (c : ℕ → Bool) (k j : ℕ) → stray s k ≡ false → j < 8 → byte_from s c k j ≡ byte_at s k j
unfolding byte_from stray stray_at
clean_byte s c k j h l = go (cases (c k && must_be_zero_of s k j))
  where
    go : (c k && must_be_zero_of s k j ≡ true) ⊎ (c k && must_be_zero_of s k j ≡ false) → pick (c k && must_be_zero_of s k j) 0 (byte_at s k j) ≡ byte_at s k j
    go (inr e) = rw e refl
    go (inl e) =
        let off = any_false (stray_at s k) 8 j l h in
        let z : not (eqb (byte_at s k j) 0) ≡ false = not-true (not (eqb (byte_at s k j) 0)) (λ t. clash (both (must_be_zero_of s k j) (not (eqb (byte_at s k j) 0)) (right_of (c k) (must_be_zero_of s k j) e) t) off) in
        rw e (sym (eqb-true (byte_at s k j) 0 (not-false (eqb (byte_at s k j) 0) z)))

pub whole-records : (s : List ℕ) → rule1 s ≡ false → length s ≡ 8 * records s
unfolding rule1
whole-records s h =
    let e : length s % 8 ≡ 0 = eqb-true (length s % 8) 0 (not-false (eqb (length s % 8) 0) (or_neither (not (eqb (length s % 8) 0)) (ltb 9296 (length s)) h).0) in
    omega arith

-- how many numbers below k are below i
pub count_under : (i k : ℕ) → i ≤ k → count (λ j. ltb j i) k ≡ i
count_under i k l = count_cut (λ j. true) k i l ∙ count-all (λ j. true) i (λ j b. refl)

pub halves : (s : List ℕ) (k : ℕ) → k ≡ count (no_edge s) k + count (is_edge s) k
unfolding no_edge
halves s k = sym (count-all (λ j. true) k (λ j b. refl)) ∙ count_split (λ j. true) (no_edge s) (is_edge s) k (λ i b. half (is_edge s i))
  where
    half : (b : Bool) → 1 ≡ bit (not b) + bit b
    half true = refl
    half false = refl

module _ (s : List ℕ) (ok : Mendable s) (h : NoMend s) where
  all_stay : (k : ℕ) → k < records s → stays s k ≡ true
  unfolding stays
  all_stay k l = rw (h drop_loop k l, h drop_double k l) refl

  kept-all : (k : ℕ) → k < records s → kept s k ≡ is_edge s k
  unfolding kept
  kept-all k l = rw (all_stay k l) (and-true (is_edge s k))

  -- before an edge stand the records that are no edges, and the kept edges before it
  seat-is : (k : ℕ) → k < records s → is_edge s k ≡ true → heads s + seat s k ≡ k
  unfolding seat
  seat-is k l e =
      let high : heads s ≤ k = edge-high s ok k l e in
      let low : count (no_edge s) k ≡ heads s = count_ext (no_edge s) (λ j. ltb j (heads s)) k (λ j b. heads-first s ok j (omega arith)) ∙ count_under (heads s) k high in
      let edges : count (kept s) k ≡ count (is_edge s) k = count_ext (kept s) (is_edge s) k (λ i b. kept-all i (omega arith)) in
      omega (arith, halves s k)

  stays_put : (k : ℕ) → k < records s → place s k ≡ k
  stays_put k l = go (cases (is_edge s k))
    where
      seated : is_edge s k ≡ true → seat s k ≡ rank s k
      seated e = unfold moved in
          ⊎_elim (λ (q : eqb (seat s k) (rank s k) ≡ true). eqb-true (seat s k) (rank s k) q)
          (λ (q : eqb (seat s k) (rank s k) ≡ false). absurd (clash (both (kept s k) (not (eqb (seat s k) (rank s k))) (kept-all k l ∙ e) (true-not (eqb (seat s k) (rank s k)) q)) (h move k l)))
          (cases (eqb (seat s k) (rank s k)))

      go : (is_edge s k ≡ true) ⊎ (is_edge s k ≡ false) → place s k ≡ k
      go (inr e) = place-head s k e
      go (inl e) = omega (arith, place-edge s k e, seat-is k l e, seated e)

  own-source : (k : ℕ) → k < records s → source (records s) (stays s) (place s) k ≡ k
  own-source k l = ap (source (records s) (stays s) (place s)) (sym (stays_put k l)) ∙ source-place s ok k l (all_stay k l)

  pub file-kept : mended_of s ≡ s
  unfolding mended_of
  file-kept =
      let all : count (stays s) (records s) ≡ records s = count-all (stays s) (records s) all_stay in
      same-file (mended_of s) s (records s) (built-length s everywhere (stays s) (place s) ∙ ap (λ (x : ℕ). 8 * x) all) (whole-records s ok.whole)
      (λ i j l b. built-byte s everywhere (stays s) (place s) i j (omega arith) b ∙ ap (λ (x : ℕ). byte_from s everywhere x j) (own-source i l) ∙ clean_byte s everywhere i j (h clear i l) b)
