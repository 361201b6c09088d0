-- Laying records over a buffer, and appending to one.
--
--   over-is             what copying to a part of a buffer makes of it
--   over-at, over-past  the bytes of a buffer that something was laid over
--   put-length          and its length
--   held_none, held_more, held-length   a list that grows
use mathlib.Core.Path.{◌≡◌, refl, sym, ap, ◌∙◌}
use mathlib.Core.Logic.{◌⊎◌, inl, inr}
use mathlib.Core.Bool.{Bool, true, false}
use mathlib.Core.List.{List, [], ◌++◌, append_assoc, append-nil}
use Prim.Native.Nat.{ℕ, ◌+◌, ◌-◌, ◌≤◌, ◌<◌}
use native.Mathlib.Omega.{arith}
use lib.ListN.{length, get_or, take, drop, length-append, length-drop, get_or-append, drop_of_length-le}
use lib.Seq.{take_all, drop-drop, get_or-take, get_or-drop, get_or-append-add, length-take-le, take_at, drop-append-add}
use Rattle.model.specs.Places.{pick}
use Rattle.mend_record.specs.Laying.{over, put, Held}

pub over-is : (old : List ℕ) (at : ℕ) (r : List ℕ) → at + length r ≤ length old
    → take at old ++ ((r ++ drop (length r) (take (length old - at) (drop at old))) ++ drop (length old - at) (drop at old)) ≡ over old at r
unfolding over
over-is old at r h =
    let w : length (drop at old) ≤ length old - at = omega (arith, length-drop at old) in
    rw (take_all (length old - at) (drop at old) w, drop_of_length-le (drop at old) w, drop-drop (length r) at old)
    (ap (λ (x : List ℕ). take at old ++ x) (append-nil (r ++ drop (at + length r) old)))

module _ (old : List ℕ) (at : ℕ) (r : List ℕ) (h : at + length r ≤ length old) where
  front : length (take at old) ≡ at
  front = length-take-le at old (omega arith)

  pub over-length : length (over old at r) ≡ length old
  unfolding over
  over-length =
      omega (arith, length-append (take at old) (r ++ drop (at + length r) old), length-append r (drop (at + length r) old), length-drop (at + length r) old, front)

  pub over-at : (b : ℕ) → b < length r → get_or (over old at r) (at + b) 0 ≡ get_or r b 0
  unfolding over
  over-at b l =
      let e : at + b ≡ length (take at old) + b = omega (arith, front) in
      rw e (get_or-append-add (take at old) (r ++ drop (at + length r) old) b 0 ∙ get_or-append r (drop (at + length r) old) 0 b l)

  pub over-past : (q : ℕ) → (q < at) ⊎ (at + length r ≤ q) → get_or (over old at r) q 0 ≡ get_or old q 0
  unfolding over
  over-past q (inl l) =
      get_or-append (take at old) (r ++ drop (at + length r) old) 0 q (omega (arith, front)) ∙ get_or-take at old q 0 l
  over-past q (inr l) =
      let e : q ≡ length (take at old) + (length r + (q - (at + length r))) = omega (arith, front) in
      let d : at + length r + (q - (at + length r)) ≡ q = omega arith in
      ap (λ (x : ℕ). get_or (take at old ++ (r ++ drop (at + length r) old)) x 0) e
      ∙ get_or-append-add (take at old) (r ++ drop (at + length r) old) (length r + (q - (at + length r))) 0
      ∙ get_or-append-add r (drop (at + length r) old) (q - (at + length r)) 0
      ∙ get_or-drop (at + length r) old (q - (at + length r)) 0
      ∙ ap (λ (x : ℕ). get_or old x 0) d

pub put-length : (old : List ℕ) (at : ℕ) (r : List ℕ) (on : Bool) → (on ≡ true → at + length r ≤ length old) → length (put old at r on) ≡ length old
unfolding put
put-length old at r true h = over-length old at r (h refl)
put-length old at r false h = refl

-- ---- a list that grows

pub held_none : (old : List ℕ) → Held [] old old
held_none old = record { holds = refl; fits = omega arith }

pub held_more : (l old b r : List ℕ) (on : Bool) → Held l old b → (on ≡ true → length l + length r ≤ length old)
    → Held (l ++ pick on r []) old (put b (length l) r on)
unfolding put over
held_more l old b r false h f = record { holds = rw (append-nil l) h.holds; fits = rw (append-nil l) h.fits }
held_more l old b r true h f =
    record {
      holds = rw (h.holds, take_at l (drop (length l) old) (length l) refl, tail) (sym (append_assoc l r (drop (length (l ++ r)) old)));
      fits = omega (arith, length-append l r, f refl);
    }
  where
    tail : drop (length l + length r) (l ++ drop (length l) old) ≡ drop (length (l ++ r)) old
    tail = drop-append-add l (drop (length l) old) (length r) ∙ drop-drop (length r) (length l) old ∙ ap (λ (n : ℕ). drop n old) (sym (length-append l r))

pub held-length : (l old b : List ℕ) → Held l old b → length b ≡ length old
held-length l old b h =
    ap length h.holds ∙ omega (arith, length-append l (drop (length l) old), length-drop (length l) old, h.fits)
