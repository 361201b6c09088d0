-- What stands in the list of mends.
--
--   listed-is      a mend of a record is listed exactly where it is done
--   two-at-most    no record has more than two entries
--   list-short     so 16 bytes for each record are room enough
--   list-whole     the list has whole records
use mathlib.Core.Path.{◌≡◌, refl, sym, ap₂, ◌∙◌}
use mathlib.Core.Logic.{◌⊎◌, inl, inr}
use mathlib.Core.Bool.{Bool, true, false, not, ◌&&◌, ◌||◌, or-false, and-true, and-false}
use mathlib.Core.List.{List, [], ◌++◌}
use Prim.Native.Nat.{ℕ, zero, suc, ◌+◌, ◌*◌, ◌%◌, ◌/◌, ◌≤◌, ◌<◌}
use native.Mathlib.Omega.{arith}
use native.Mathlib.Decide.{ℕ_discrete}
use lib.Dec.{eqb, ltb}
use lib.ListN.{length, length-append, get_or-append}
use lib.Seq.{get_or-append-add}
use borrow.Author.Tests.{lt-ltb, le-ltb, eq-eqb, ne_eqb}
use Rattle.model.specs.Places.{pick, bit, any, sum}
use Rattle.model.proofs.Bools.{le-or-lt, bit_le}
use Rattle.model.proofs.Places.{any_ext}
use Rattle.model.proofs.Sums.{sum-most}
use Rattle.graph.specs.File.{records, byte_at}
use Rattle.mends.specs.Mends.{Mend, clear, drop_loop, drop_double, move, due, stray, is_edge, loop, has_same_ends, double, stays, kept, seat, rank, moved}
use Rattle.mends.specs.Listed.{letter, entry, entry_if, entries, list_up_to, list_of}
use Rattle.mends.specs.Redo.{says, listed}

any_append : (p : ℕ → Bool) (c d : ℕ) → any p (c + d) ≡ any p c || any (λ i. p (c + i)) d
unfolding any
any_append p c zero = let e : c + 0 ≡ c = omega arith in rw e (sym (or-false (any p c)))
any_append p c (suc d) =
    let e : c + suc d ≡ suc (c + d) = omega arith in
    rw (e, any_append p c d) (assoc (any p c) (any (λ i. p (c + i)) d) (p (c + d)))
  where
    assoc : (x y z : Bool) → (x || y) || z ≡ x || (y || z)
    assoc true y z = refl
    assoc false y z = refl

-- two lists one after the other have the entries of both
module _ (a b : List ℕ) (c : ℕ) (whole : length a ≡ 8 * c) where
  pub front : (e j : ℕ) → e < c → j < 8 → byte_at (a ++ b) e j ≡ byte_at a e j
  front e j l h = get_or-append a b 0 (8 * e + j) (omega arith)

  pub back : (e j : ℕ) → byte_at (a ++ b) (c + e) j ≡ byte_at b e j
  back e j =
      let q : 8 * (c + e) + j ≡ length a + (8 * e + j) = omega arith in
      rw q (get_or-append-add a b (8 * e + j) 0)

  listed-append : (m : Mend) (k : ℕ) → listed (a ++ b) m k ≡ listed a m k || listed b m k
  unfolding listed says
  listed-append m k =
      let n : records (a ++ b) ≡ c + records b = omega (arith, length-append a b) in
      let w : records a ≡ c = omega arith in
      rw (n, any_append (says (a ++ b) m k) c (records b), w)
      (ap₂ ◌||◌
      (any_ext (says (a ++ b) m k) (says a m k) c (λ e l. rw (front e 0 l (omega arith), front e 1 l (omega arith), front e 2 l (omega arith)) refl))
      (any_ext (λ i. says (a ++ b) m k (c + i)) (says b m k) (records b) (λ e l. rw (back e 0, back e 1, back e 2) refl)))

listed-none : (m : Mend) (k : ℕ) → listed [] m k ≡ false
unfolding listed any
listed-none m k = refl

-- ---- one entry

pub entry_length : (s : List ℕ) (m : Mend) (k : ℕ) → length (entry_if s m k) ≡ 8 * bit (due s m k)
unfolding entry_if
entry_length s m k = go (due s m k)
  where
    go : (b : Bool) → length (pick b (entry m k) []) ≡ 8 * bit b
    go true = refl
    go false = refl

entry_listed : (s : List ℕ) (m w : Mend) (n k : ℕ) → listed (entry_if s m n) w k ≡ due s m n && (eqb (letter m) (letter w) && eqb n k)
unfolding entry_if listed says any
entry_listed s m w n k = go (due s m n)
  where
    go : (b : Bool) → listed (pick b (entry m n) []) w k ≡ b && (eqb (letter m) (letter w) && eqb n k)
    go false = refl
    go true = let e : n % 256 + 256 * (n / 256) ≡ n = omega arith in rw e refl

-- ---- the entries of one record

-- how many mends are done to record k
unfoldable pub many : List ℕ → ℕ → ℕ
many s k = bit (stray s k) + bit (loop s k) + bit (double s k) + bit (moved s k)

-- the four mends have letters of their own
by_letter : (w : Mend) (f : Mend → ℕ → Bool) (n : ℕ) (e : Bool)
    → (f clear n && (eqb (letter clear) (letter w) && e)) || ((f drop_loop n && (eqb (letter drop_loop) (letter w) && e)) || ((f drop_double n && (eqb (letter drop_double) (letter w) && e)) || (f move n && (eqb (letter move) (letter w) && e))))
    ≡ f w n && e
by_letter clear f n e = rw (and-false (f drop_loop n), and-false (f drop_double n), and-false (f move n)) (or-false (f clear n && e))
by_letter drop_loop f n e = rw (and-false (f clear n), and-false (f drop_double n), and-false (f move n)) (or-false (f drop_loop n && e))
by_letter drop_double f n e = rw (and-false (f clear n), and-false (f drop_loop n), and-false (f move n)) (or-false (f drop_double n && e))
by_letter move f n e = rw (and-false (f clear n), and-false (f drop_loop n), and-false (f drop_double n)) refl

tail-length : (s : List ℕ) (k : ℕ) → length (entry_if s drop_double k ++ entry_if s move k) ≡ 8 * (bit (double s k) + bit (moved s k))
tail-length s k =
    omega (arith, length-append (entry_if s drop_double k) (entry_if s move k), entry_length s drop_double k, entry_length s move k)

pub entries-length : (s : List ℕ) (k : ℕ) → length (entries s k) ≡ 8 * many s k
unfolding entries many
entries-length s k =
    omega (arith, length-append (entry_if s clear k) (entry_if s drop_loop k ++ (entry_if s drop_double k ++ entry_if s move k)), length-append (entry_if s drop_loop k) (entry_if s drop_double k ++ entry_if s move k), tail-length s k, entry_length s clear k, entry_length s drop_loop k)

entries-listed : (s : List ℕ) (w : Mend) (n k : ℕ) → listed (entries s n) w k ≡ due s w n && eqb n k
unfolding entries
entries-listed s w n k =
    listed-append (entry_if s clear n) (entry_if s drop_loop n ++ (entry_if s drop_double n ++ entry_if s move n)) (bit (stray s n)) (entry_length s clear n) w k
    ∙ ap₂ ◌||◌ (entry_listed s clear w n k)
    (listed-append (entry_if s drop_loop n) (entry_if s drop_double n ++ entry_if s move n) (bit (loop s n)) (entry_length s drop_loop n) w k
    ∙ ap₂ ◌||◌ (entry_listed s drop_loop w n k)
    (listed-append (entry_if s drop_double n) (entry_if s move n) (bit (double s n)) (entry_length s drop_double n) w k
    ∙ ap₂ ◌||◌ (entry_listed s drop_double w n k) (entry_listed s move w n k)))
    ∙ by_letter w (due s) n (eqb n k)

-- ---- the whole list

list_length : (s : List ℕ) (n : ℕ) → length (list_up_to s n) ≡ 8 * sum (many s) n
unfolding list_up_to sum many
list_length s zero = refl
list_length s (suc n) = length-append (list_up_to s n) (entries s n) ∙ omega (arith, list_length s n, entries-length s n)

list-listed : (s : List ℕ) (m : Mend) (k n : ℕ) → listed (list_up_to s n) m k ≡ ltb k n && due s m k
unfolding list_up_to
list-listed s m k zero = rw (le-ltb k 0 (omega arith)) (listed-none m k)
list-listed s m k (suc n) =
    listed-append (list_up_to s n) (entries s n) (sum (many s) n) (list_length s n) m k
    ∙ ap₂ ◌||◌ (list-listed s m k n) (entries-listed s m n k)
    ∙ go (ℕ_discrete n k) (le-or-lt n k)
  where
    go : Dec (n ≡ k) → (n ≤ k) ⊎ (k < n) → (ltb k n && due s m k) || (due s m n && eqb n k) ≡ ltb k (suc n) && due s m k
    go (yes e) o = rw (e, le-ltb k k (omega arith), lt-ltb k (suc k) (omega arith), eq-eqb k k refl) (and-true (due s m k))
    go (no e) (inl l) = rw (le-ltb k n l, le-ltb k (suc n) (omega arith), ne_eqb n k e) (and-false (due s m n))
    go (no e) (inr l) = rw (lt-ltb k n l, lt-ltb k (suc n) (omega arith), ne_eqb n k e, and-false (due s m n)) (or-false (due s m k))

pub listed-is : (s : List ℕ) (m : Mend) (k : ℕ) → k < records s → listed (list_of s) m k ≡ due s m k
unfolding list_of
listed-is s m k l = list-listed s m k (records s) ∙ rw (lt-ltb k (records s) l) refl

-- ---- at most two entries

-- a dropped edge is not moved, and no edge is dropped twice
pub two-at-most : (s : List ℕ) (k : ℕ) → many s k ≤ 2
unfolding many moved kept stays double
two-at-most s k = omega (arith, bit_le (stray s k), go (is_edge s k) (loop s k) (any (has_same_ends s k) k) (not (eqb (seat s k) (rank s k))))
  where
    go : (e l x y : Bool) → bit l + bit (e && (not l && x)) + bit ((e && (not l && not (e && (not l && x)))) && y) ≤ 1
    go false true x y = omega arith
    go false false x y = omega arith
    go true true x y = omega arith
    go true false true y = omega arith
    go true false false true = omega arith
    go true false false false = omega arith

pub list-whole : (s : List ℕ) → length (list_of s) ≡ 8 * sum (many s) (records s)
unfolding list_of
list-whole s = list_length s (records s)

pub list-short : (s : List ℕ) → length (list_of s) ≤ 16 * records s
list-short s = omega (arith, list-whole s, sum-most (many s) 2 (records s) (λ v l. two-at-most s v))
