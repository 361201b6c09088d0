-- One byte further in a text: what the loops of `scan` rest on.
use mathlib.Core.Path.{◌≡◌, refl}
use mathlib.Core.Bool.{true, false, ◌&&◌}
use mathlib.Core.List.{List, [], ◌∷◌}
use Prim.Native.Nat.{ℕ, ◌+◌, ◌-◌, ◌*◌, ◌^◌, ◌≤◌, ◌<◌}
use native.Mathlib.Numerals.{add-one}
use native.Mathlib.Nat.{pow-suc}
use native.Mathlib.Omega.{arith}
use lib.ListN.{length, get_or, drop, drop_of_length-le}
use lib.Seq.{drop-cons}
use lib.Dec.{ltb, leb}
use borrow.Author.Tests.{leb-true}
use Rattle.model.proofs.Bools.{left-of, right_of}
use Rattle.stg_text.specs.Fields.{feed, blank, digit}
use Rattle.stg_scan.specs.Scan.{parts, skip_at, feed_at_of, scan}
use Rattle.std.specs.Prelude.{Some, None}
use Rattle.stg_scan.specs.declared.Token.TheVariants.{Number}

pub drop_here : (s : List ℕ) (i : ℕ) → i < length s → drop i s ≡ get_or s i 0 ∷ drop (i + 1) s
drop_here s i l = rw (add-one i) (drop-cons s i 0 l)

pub drop-end : (s : List ℕ) (i : ℕ) → length s ≤ i → drop i s ≡ []
drop-end s i l = drop_of_length-le s l

-- ---- blanks

pub skip-here : (s : List ℕ) (i : ℕ) → i < length s → blank (get_or s i 0) ≡ false → skip_at i (drop i s) ≡ i
unfolding skip_at
skip-here s i l e = rw (drop_here s i l, e) refl

pub skip-more : (s : List ℕ) (i : ℕ) → i < length s → blank (get_or s i 0) ≡ true → skip_at i (drop i s) ≡ skip_at (i + 1) (drop (i + 1) s)
unfolding skip_at
skip-more s i l e = rw (drop_here s i l, e) refl

pub skip-end : (s : List ℕ) (i : ℕ) → length s ≤ i → skip_at i (drop i s) ≡ i
unfolding skip_at
skip-end s i l = rw (drop-end s i l) refl

-- ---- the line feed

pub feed-here : (s : List ℕ) (i : ℕ) → i < length s → feed (get_or s i 0) ≡ true → feed_at_of i (drop i s) ≡ Some i
unfolding feed_at_of
feed-here s i l e = rw (drop_here s i l, e) refl

pub feed-more : (s : List ℕ) (i : ℕ) → i < length s → feed (get_or s i 0) ≡ false → feed_at_of i (drop i s) ≡ feed_at_of (i + 1) (drop (i + 1) s)
unfolding feed_at_of
feed-more s i l e = rw (drop_here s i l, e) refl

pub feed-end : (s : List ℕ) (i : ℕ) → length s ≤ i → feed_at_of i (drop i s) ≡ None
unfolding feed_at_of
feed-end s i l = rw (drop-end s i l) refl

-- ---- digits

pub scan-part : (s : List ℕ) (i k x : ℕ) → i < length s → parts (get_or s i 0) ≡ true → scan i k x (drop i s) ≡ Some (Number x i)
unfolding scan
scan-part s i k x l e = rw (drop_here s i l, e) refl

pub scan-bad : (s : List ℕ) (i k x : ℕ) → i < length s → parts (get_or s i 0) ≡ false → digit (get_or s i 0) && ltb k 10 ≡ false → scan i k x (drop i s) ≡ None
unfolding scan
scan-bad s i k x l e f = rw (drop_here s i l, e, f) refl

pub scan-more : (s : List ℕ) (i k x : ℕ) → i < length s → parts (get_or s i 0) ≡ false → digit (get_or s i 0) && ltb k 10 ≡ true
    → scan i k x (drop i s) ≡ scan (i + 1) (k + 1) (10 * x + (get_or s i 0 - 48)) (drop (i + 1) s)
unfolding scan
scan-more s i k x l e f = rw (drop_here s i l, e, f) refl

pub scan-end : (s : List ℕ) (i k x : ℕ) → length s ≤ i → scan i k x (drop i s) ≡ Some (Number x i)
unfolding scan
scan-end s i k x l = rw (drop-end s i l) refl

-- a number of less than ten digits has room for one more
pub digit-from : (c : ℕ) → digit c ≡ true → (48 ≤ c) × (c ≤ 57)
unfolding digit
digit-from c h = (leb-true 48 c (left-of (leb 48 c) (leb c 57) h), leb-true c 57 (right_of (leb 48 c) (leb c 57) h))

pub digit-more : (k x d : ℕ) → x < 10 ^ k → d ≤ 9 → 10 * x + d < 10 ^ (k + 1)
digit-more k x d h l = rw (add-one k) (omega (arith, pow-suc 10 k))
