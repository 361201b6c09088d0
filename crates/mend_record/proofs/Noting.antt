-- The entries of one record, noted one after the other.
--
--   room-left, loop-room, double-room, move_room   at most two entries: there is room for each that is made
--   noted                               the four notes are the record's entries
--   two-done, next-entry, entries-short   how many there are
use mathlib.Core.Path.{◌≡◌, refl}
use mathlib.Core.Bool.{Bool, true, false}
use mathlib.Core.List.{List, [], ◌++◌, append_assoc}
use Prim.Native.Nat.{ℕ, ◌+◌, ◌*◌, ◌≤◌}
use native.Mathlib.Omega.{arith}
use lib.ListN.{length, length-append}
use Rattle.model.specs.Places.{pick, bit}
use Rattle.model.proofs.Bools.{bit-one}
use Rattle.mends.specs.Mends.{stray, loop, double, moved}
use Rattle.mends.specs.Listed.{entry_if, entries}
use Rattle.mends.proofs.Listing.{many, two-at-most, entries-length}
use Rattle.mend_record.specs.Laying.{put, entry_bytes, Held, fate_of, notes}
use Rattle.mend_record.proofs.Laying.{held_more}

module _ (s : List ℕ) (k n : ℕ) where
  -- an entry that is made is one of two at most
  pub room-left : (x : ℕ) → x + 1 ≤ many s k → n + 8 * x + 8 ≤ n + 16
  room-left x h = omega (arith, two-at-most s k)

  pub loop-room : loop s k ≡ true → bit (stray s k) + 1 ≤ many s k
  unfolding many
  loop-room e = omega (arith, bit-one (loop s k) e)

  pub double-room : double s k ≡ true → bit (stray s k) + bit (loop s k) + 1 ≤ many s k
  unfolding many
  double-room e = omega (arith, bit-one (double s k) e)

  pub move_room : moved s k ≡ true → bit (stray s k) + bit (loop s k) + bit (double s k) + 1 ≤ many s k
  unfolding many
  move_room e = omega (arith, bit-one (moved s k) e)

-- one note: where the list l stands, it is l and the entry
step : (l room b new e : List ℕ) (n : ℕ) (on : Bool) → length l ≡ n → Held l room b → (on ≡ true → n + length e ≤ length room) → new ≡ put b n e on
    → Held (l ++ pick on e []) room new
step l room b new e n on w h f q = rw (q, ← w) (held_more l room b e on h (λ t. omega (arith, f t)))

-- the four notes are the record's entries
pub noted : (s : List ℕ) (k n : ℕ) (l room old : List ℕ) → length l ≡ n → n + 16 ≤ length room → Held l room old
    → Held (l ++ entries s k) room (notes old n k (fate_of s k))
unfolding entries entry_if notes fate_of
noted s k n l r old w fit h =
    let e = pick (stray s k) (entry_bytes 0x43 k) [] in
    let f = pick (loop s k) (entry_bytes 0x44 k) [] in
    let g = pick (double s k) (entry_bytes 0x58 k) [] in
    let i = pick (moved s k) (entry_bytes 0x4D k) [] in
    let a = n + 8 * bit (stray s k) in
    let b = a + 8 * bit (loop s k) in
    let c = b + 8 * bit (double s k) in
    let one = put old n (entry_bytes 0x43 k) (stray s k) in
    let two = put one a (entry_bytes 0x44 k) (loop s k) in
    let three = put two b (entry_bytes 0x58 k) (double s k) in
    let four = put three c (entry_bytes 0x4D k) (moved s k) in
    let wa : length (l ++ e) ≡ a = omega (arith, length-append l e, size (stray s k) 0x43) in
    let wb : length ((l ++ e) ++ f) ≡ b = omega (arith, length-append (l ++ e) f, size (loop s k) 0x44) in
    let wc : length (((l ++ e) ++ f) ++ g) ≡ c = omega (arith, length-append ((l ++ e) ++ f) g, size (double s k) 0x58) in
    let ha = step l r old one (entry_bytes 0x43 k) n (stray s k) w h (λ t. omega arith) refl in
    let hb = step (l ++ e) r one two (entry_bytes 0x44 k) a (loop s k) wa ha (λ t. omega (arith, room-left s k n (bit (stray s k)) (loop-room s k n t))) refl in
    let hc = step ((l ++ e) ++ f) r two three (entry_bytes 0x58 k) b (double s k) wb hb (λ t. omega (arith, room-left s k n (bit (stray s k) + bit (loop s k)) (double-room s k n t))) refl in
    let hd = step (((l ++ e) ++ f) ++ g) r three four (entry_bytes 0x4D k) c (moved s k) wc hc (λ t. omega (arith, room-left s k n (bit (stray s k) + bit (loop s k) + bit (double s k)) (move_room s k n t))) refl in
    let assoc : (((l ++ e) ++ f) ++ g) ++ i ≡ l ++ (e ++ (f ++ (g ++ i))) = simp append_assoc in
    rw assoc at hd
  where
    size : (x : Bool) (m : ℕ) → length (pick x (entry_bytes m k) []) ≡ 8 * bit x
    size true m = refl
    size false m = refl

pub two-done : (s : List ℕ) (k : ℕ) → bit (fate_of s k).stray + bit (fate_of s k).looped + bit (fate_of s k).doubled + bit (fate_of s k).moved ≤ 2
unfolding fate_of many
two-done s k = two-at-most s k

pub next-entry : (s : List ℕ) (k n : ℕ)
    → n + 8 * bit (fate_of s k).stray + 8 * bit (fate_of s k).looped + 8 * bit (fate_of s k).doubled + 8 * bit (fate_of s k).moved ≡ n + length (entries s k)
unfolding fate_of many
next-entry s k n = omega (arith, entries-length s k)

pub entries-short : (s : List ℕ) (k : ℕ) → length (entries s k) ≤ 16
entries-short s k = omega (arith, entries-length s k, two-at-most s k)
