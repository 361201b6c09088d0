-- The bytes of a built file, record by record.
--
--   built-length   how long it is
--   built-byte     byte j of record i is that of its source
--   built_ext      what a built file rests on
--   same-file      two files of n records with the same bytes are equal
use mathlib.Core.Path.{◌≡◌, refl, sym, ap, ap₂, ◌∙◌}
use mathlib.Core.Logic.{◌⊎◌, inl, inr}
use mathlib.Core.Bool.{Bool, true, false, ◌&&◌}
use mathlib.Core.List.{List}
use Prim.Native.Nat.{ℕ, zero, suc, ◌+◌, ◌*◌, ◌/◌, ◌%◌, ◌<◌}
use native.Mathlib.Omega.{arith}
use lib.Dec.{eqb}
use lib.ListN.{length, get_or}
use lib.Seq.{ext_get_or}
use Rattle.model.specs.Places.{first, count}
use Rattle.model.proofs.Bools.{cases}
use Rattle.model.proofs.Places.{count_ext}
use Rattle.model.proofs.Tables.{table-length, table_at}
use Rattle.model.proofs.Turns.{table_ext}
use Rattle.graph.specs.File.{records, byte_at}
use Rattle.mends.specs.Mended.{lands, source, byte_from, built}

pub same-file : (a b : List ℕ) (n : ℕ) → length a ≡ 8 * n → length b ≡ 8 * n
    → ((i j : ℕ) → i < n → j < 8 → byte_at a i j ≡ byte_at b i j) → a ≡ b
same-file a b n la lb h = ext_get_or 0 a b (la ∙ sym lb) (λ p l. at p (omega arith))
  where
    at : (p : ℕ) → p < 8 * n → get_or a p 0 ≡ get_or b p 0
    at p l = let e : 8 * (p / 8) + p % 8 ≡ p = omega arith in rw e at (h (p / 8) (p % 8) (omega arith) (omega arith))

first_ext : (p q : ℕ → Bool) (n : ℕ) → ((i : ℕ) → i < n → p i ≡ q i) → first p n ≡ first q n
unfolding first
first_ext p q zero h = refl
first_ext p q (suc n) h =
    rw (h 0 (omega arith), first_ext (λ k. p (suc k)) (λ k. q (suc k)) n (λ i l. h (suc i) (omega arith))) refl

module _ (s : List ℕ) (clear stays : ℕ → Bool) (place : ℕ → ℕ) where
  pub built-length : length (built s clear stays place) ≡ 8 * count stays (records s)
  unfolding built
  built-length = table-length (λ p. byte_from s clear (source (records s) stays place (p / 8)) (p % 8)) (8 * count stays (records s))

  pub built-byte : (i j : ℕ) → i < count stays (records s) → j < 8
      → byte_at (built s clear stays place) i j ≡ byte_from s clear (source (records s) stays place i) j
  unfolding built
  built-byte i j l h =
      let d : (8 * i + j) / 8 ≡ i = omega arith in
      let m : (8 * i + j) % 8 ≡ j = omega arith in
      table_at (λ p. byte_from s clear (source (records s) stays place (p / 8)) (p % 8)) (8 * count stays (records s)) (8 * i + j) (omega arith)
      ∙ ap₂ (λ (x y : ℕ). byte_from s clear (source (records s) stays place x) y) d m

source_ext : (n : ℕ) (stays other : ℕ → Bool) (place seat : ℕ → ℕ) → ((k : ℕ) → k < n → stays k ≡ other k)
    → ((k : ℕ) → k < n → stays k ≡ true → place k ≡ seat k) → (i : ℕ) → source n stays place i ≡ source n other seat i
unfolding source lands
source_ext n stays other place seat a b i = first_ext (lands stays place i) (lands other seat i) n (λ k l. go k l (cases (stays k)))
  where
    go : (k : ℕ) → k < n → (stays k ≡ true) ⊎ (stays k ≡ false) → stays k && eqb (place k) i ≡ other k && eqb (seat k) i
    go k l (inl e) = rw (← a k l, e, b k l e) refl
    go k l (inr e) = rw (← a k l, e) refl

-- where every place has a source, a file rests on the bytes of the records alone
pub built_ext : (s : List ℕ) (clear other : ℕ → Bool) (stays stay : ℕ → Bool) (place seat : ℕ → ℕ) → ((k : ℕ) → k < records s → stays k ≡ stay k)
    → ((k : ℕ) → k < records s → stays k ≡ true → place k ≡ seat k)
    → ((k j : ℕ) → k < records s → j < 8 → byte_from s clear k j ≡ byte_from s other k j)
    → ((i : ℕ) → i < count stays (records s) → source (records s) stays place i < records s)
    → built s clear stays place ≡ built s other stay seat
unfolding built
built_ext s clear other stays stay place seat a b c d =
    let n : count stays (records s) ≡ count stay (records s) = count_ext stays stay (records s) a in
    rw (← n)
    (table_ext (λ p. byte_from s clear (source (records s) stays place (p / 8)) (p % 8)) (λ p. byte_from s other (source (records s) stay seat (p / 8)) (p % 8)) (8 * count stays (records s))
    (λ p l. c (source (records s) stays place (p / 8)) (p % 8) (d (p / 8) (omega arith)) (omega arith) ∙ ap (λ (x : ℕ). byte_from s other x (p % 8)) (source_ext (records s) stays stay place seat a b (p / 8))))
