-- Nothing unlisted happened: from the input and the list alone the mended file is made again.
use mathlib.Core.Path.{◌≡◌, refl, sym, ◌∙◌}
use mathlib.Core.Logic.{◌⊎◌, inl, inr, ⊎_elim}
use mathlib.Core.Bool.{true, false, not}
use mathlib.Core.List.{List}
use Prim.Native.Nat.{ℕ, ◌+◌, ◌<◌}
use native.Mathlib.Omega.{arith}
use lib.Dec.{eqb}
use borrow.Author.Tests.{eqb-true}
use Rattle.model.specs.Places.{pick, count}
use Rattle.model.proofs.Bools.{clash, cases, both, true-not}
use Rattle.model.proofs.Places.{count_ext}
use Rattle.graph.specs.File.{records}
use Rattle.mends.specs.Mends.{clear, drop_loop, drop_double, move, stray, is_edge, stays, kept, seat, lesser, rank, moved}
use Rattle.mends.specs.Mended.{heads, place, source, byte_from, everywhere, mended_of}
use Rattle.mends.specs.Listed.{list_of}
use Rattle.mends.specs.Redo.{listed, goes_not, remains, stood, under, belongs, put, redo}
use Rattle.mends.specs.Answers.{Mendable}
use Rattle.mends.proofs.Landing.{landed, source-place}
use Rattle.mends.proofs.Built.{built_ext}
use Rattle.mends.proofs.Tidy.{clean_byte}
use Rattle.mends.proofs.Listing.{listed-is}

module _ (s : List ℕ) where
  goes : (k : ℕ) → k < records s → stays s k ≡ goes_not (list_of s) k
  unfolding goes_not stays
  goes k l = sym (rw (listed-is s drop_loop k l, listed-is s drop_double k l) refl)

  remaining : (k : ℕ) → k < records s → remains s (list_of s) k ≡ kept s k
  unfolding remains kept
  remaining k l = rw (← goes k l) refl

  seat-stood : (k : ℕ) → k < records s → stood s (list_of s) k ≡ seat s k
  unfolding stood seat
  seat-stood k l = count_ext (remains s (list_of s)) (kept s) k (λ i b. remaining i (omega arith))

  rank-belongs : (k : ℕ) → belongs s (list_of s) k ≡ rank s k
  unfolding belongs rank under lesser
  rank-belongs k = count_ext (under s (list_of s) k) (lesser s k) (records s) (λ i b. rw (remaining i b) refl)

  -- an edge that is not moved has one place, by its seat or by its ends
  same_place : (k : ℕ) → k < records s → stays s k ≡ true → place s k ≡ put s (list_of s) k
  unfolding place put
  same_place k l st = go (cases (is_edge s k)) (cases (moved s k))
    where
      seated : is_edge s k ≡ true → moved s k ≡ false → seat s k ≡ rank s k
      seated e m = unfold moved kept in
          ⊎_elim (λ (q : eqb (seat s k) (rank s k) ≡ true). eqb-true (seat s k) (rank s k) q)
          (λ (q : eqb (seat s k) (rank s k) ≡ false). absurd (clash (both (kept s k) (not (eqb (seat s k) (rank s k))) (both (is_edge s k) (stays s k) e st) (true-not (eqb (seat s k) (rank s k)) q)) m))
          (cases (eqb (seat s k) (rank s k)))

      go : (is_edge s k ≡ true) ⊎ (is_edge s k ≡ false) → (moved s k ≡ true) ⊎ (moved s k ≡ false)
          → pick (is_edge s k) (heads s + rank s k) k ≡ pick (is_edge s k) (heads s + pick (listed (list_of s) move k) (belongs s (list_of s) k) (stood s (list_of s) k)) k
      go (inr e) m = rw e refl
      go (inl e) (inl m) = rw (e, listed-is s move k l, m, rank-belongs k) refl
      go (inl e) (inr m) = rw (e, listed-is s move k l, m, seat-stood k l, seated e m) refl

  same_byte : (k j : ℕ) → k < records s → j < 8 → byte_from s everywhere k j ≡ byte_from s (listed (list_of s) clear) k j
  same_byte k j l b = go (cases (stray s k))
    where
      go : (stray s k ≡ true) ⊎ (stray s k ≡ false) → byte_from s everywhere k j ≡ byte_from s (listed (list_of s) clear) k j
      go (inl e) = unfold byte_from everywhere in rw (listed-is s clear k l, e) refl
      go (inr e) = clean_byte s everywhere k j e b ∙ sym (clean_byte s (listed (list_of s) clear) k j e b)

pub redone : (s : List ℕ) → Mendable s → redo s (list_of s) ≡ mended_of s
unfolding redo mended_of
redone s ok =
    sym (built_ext s everywhere (listed (list_of s) clear) (stays s) (goes_not (list_of s)) (place s) (put s (list_of s)) (goes s) (same_place s) (same_byte s) found)
  where
    found : (i : ℕ) → i < count (stays s) (records s) → source (records s) (stays s) (place s) i < records s
    found i l =
        let r = landed s ok i l in
        rw (← r.3, source-place s ok r.0 r.1 r.2) r.1
