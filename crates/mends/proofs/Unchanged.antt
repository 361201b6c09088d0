-- What mending leaves, in the order's words.
--
--   standing         a record that stays stands at its place, cleared and otherwise as it was
--   head-place       a type or a vertex stands where it stood
--   kept-place       a kept edge stands after the types and vertices, by its ends among the kept edges
--   ascends          the edges of the mended file ascend
--   untouched        a record that is not listed has all its bytes, and an edge its place among the kept edges
--   no-edge_lost     every edge that is from no vertex to itself is in the mended file
use mathlib.Core.Path.{◌≡◌, refl, sym, ◌∙◌}
use mathlib.Core.Logic.{inl, inr, ⊎_elim}
use mathlib.Core.Bool.{true, false, not}
use mathlib.Core.List.{List}
use Prim.Native.Nat.{ℕ, ◌+◌, ◌<◌}
use native.Mathlib.Omega.{arith}
use lib.Dec.{eqb, lit<}
use lib.ListN.{get_or}
use borrow.Author.Tests.{eqb-true}
use Rattle.model.proofs.Bools.{clash, cases, both, true-not}
use Rattle.graph.specs.File.{records}
use Rattle.mends.specs.Mends.{Mend, clear, drop_loop, drop_double, move, due, is_edge, loop, stays, kept, seat, rank, moved}
use Rattle.mends.specs.Mended.{heads, place, byte_from, everywhere, mended_of}
use Rattle.mends.specs.Answers.{Mendable}
use Rattle.mends.specs.Kept.{Standing, Untouched, Found, Above}
use Rattle.mends.proofs.Ends.{key-ends, key_above, first-kept}
use Rattle.mends.proofs.Landing.{kept-edge, kept-stays, head-stays, place-within, place-head, place-edge}
use Rattle.mends.proofs.Tidy.{clean_byte}
use Rattle.mends.proofs.Again.{Origin, origin, mended-at, mended-records, low_same, kind-same, up}

module _ (s : List ℕ) (ok : Mendable s) where
  here : (k : ℕ) → k < records s → stays s k ≡ true → Origin s (place s k)
  here k l e = record { number = k; within = l; stayed = e; put = refl; bytes = mended-at s ok k l e }

  pub standing : (k : ℕ) → k < records s → stays s k ≡ true → Standing s k
  unfolding byte_from everywhere
  standing k l e = record {
    within = rw (mended-records s) (place-within s ok k l e);
    bytes = λ j b z. mended-at s ok k l e j b ∙ rw z refl;
    zeros = λ j b z. mended-at s ok k l e j b ∙ rw z refl;
  }

  pub head-place : (k : ℕ) → is_edge s k ≡ false → (stays s k ≡ true) × (place s k ≡ k)
  head-place k e = (head-stays s k e, place-head s k e)

  pub kept-place : (k : ℕ) → kept s k ≡ true → (stays s k ≡ true) × (place s k ≡ heads s + rank s k)
  kept-place k e = (kept-stays s k e, place-edge s k (kept-edge s k e))

  pub untouched : (k : ℕ) → k < records s → ((m : Mend) → due s m k ≡ false) → Untouched s k
  untouched k l h = record { bytes = λ j b. mended-at s ok k l stay j b ∙ clean_byte s everywhere k j (h clear) b; among_kept = seated }
    where
      stay : stays s k ≡ true
      stay = unfold stays in rw (h drop_loop, h drop_double) refl

      seated : is_edge s k ≡ true → rank s k ≡ seat s k
      seated e = unfold moved kept in
          ⊎_elim (λ (q : eqb (seat s k) (rank s k) ≡ true). sym (eqb-true (seat s k) (rank s k) q))
          (λ (q : eqb (seat s k) (rank s k) ≡ false). absurd (clash (both (kept s k) (not (eqb (seat s k) (rank s k))) (both (is_edge s k) (stays s k) e stay) (true-not (eqb (seat s k) (rank s k)) q)) (h move)))
          (cases (eqb (seat s k) (rank s k)))

  module _ (bytes : (i : ℕ) → get_or s i 0 < 256) where
    pub ascends : (i j : ℕ) → i < j → j < records (mended_of s) → is_edge (mended_of s) i ≡ true → is_edge (mended_of s) j ≡ true → Above (mended_of s) i j
    ascends i j l h x y =
        let a = origin s ok i (omega arith) in
        let b = origin s ok j h in
        go a b (key_above s bytes a.number b.number (up s ok i j l a b x y))
      where
        go : (a : Origin s i) (b : Origin s j) → Above s a.number b.number → Above (mended_of s) i j
        go a b (inl q) = inl (rw (low_same s ok i a 1 (lit< tt), low_same s ok j b 1 (lit< tt)) q)
        go a b (inr q) = inr (rw (low_same s ok i a 1 (lit< tt), low_same s ok j b 1 (lit< tt)) q.0, rw (low_same s ok i a 2 (lit< tt), low_same s ok j b 2 (lit< tt)) q.1)

    pub no-edge_lost : (k : ℕ) → k < records s → is_edge s k ≡ true → loop s k ≡ false → (i : ℕ) × Found s k i
    unfolding here
    no-edge_lost k l e f =
        let r = first-kept s bytes (records s) k l e f in
        let j = r.0 in
        let st = kept-stays s j r.2 in
        let o = here j r.1 st in
        let q = key-ends s bytes j k r.3 in (
          place s j,
          record {
            within = rw (mended-records s) (place-within s ok j r.1 st);
            edge = kind-same s ok (place s j) o 2 ∙ kept-edge s j r.2;
            from = low_same s ok (place s j) o 1 (lit< tt) ∙ q.0;
            to = low_same s ok (place s j) o 2 (lit< tt) ∙ q.1;
          },
        )
