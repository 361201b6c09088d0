-- The room of which the front is written, record after record.
use mathlib.Core.Path.{◌≡◌, refl, sym, ap, ◌∙◌}
use mathlib.Core.List.{List, [], ◌++◌, append_assoc, append-nil}
use Prim.Native.Nat.{ℕ, suc, ◌+◌, ◌-◌, ◌*◌, ◌≤◌}
use native.Mathlib.Numerals.{add-one}
use native.Mathlib.Omega.{arith}
use lib.ListN.{length, take, drop, length-append, length-drop, drop_of_length-le}
use lib.Seq.{take_at, drop_at, take_all, drop-drop}
use Rattle.model.specs.Places.{table}
use Rattle.model.proofs.Tables.{table-length}
use Rattle.recorded.specs.LogOf.{log_record, bytes_of}
use Rattle.recorded.proofs.Entries.{bytes-length, bytes-more}

module _ (f : ℕ → ℕ) (old : List ℕ) where
  pub handed_none : old ≡ bytes_of (table f 0) ++ drop (8 * 0) old
  unfolding table bytes_of
  handed_none = refl

  front : (k : ℕ) → length (bytes_of (table f k)) ≡ 8 * k
  front k = bytes-length (table f k) ∙ ap (λ (x : ℕ). 8 * x) (table-length f k)

  pub handed_length : (k : ℕ) → 8 * k ≤ length old → length (bytes_of (table f k) ++ drop (8 * k) old) ≡ length old
  handed_length k b = omega (arith, length-append (bytes_of (table f k)) (drop (8 * k) old), front k, length-drop (8 * k) old)

  more : (k : ℕ) → bytes_of (table f (k + 1)) ≡ bytes_of (table f k) ++ log_record (f k)
  unfolding table
  more k = rw (add-one k) (bytes-more (table f k) (f k))

  -- record k copied to the front of what lies past the first k
  pub handed_more : (k : ℕ) → 8 * suc k ≤ length old
      → take (8 * k) (bytes_of (table f k) ++ drop (8 * k) old)
      ++ ((log_record (f k) ++ drop 8 (take (length old - 8 * k) (drop (8 * k) (bytes_of (table f k) ++ drop (8 * k) old))))
      ++ drop (length old - 8 * k) (drop (8 * k) (bytes_of (table f k) ++ drop (8 * k) old)))
      ≡ bytes_of (table f (k + 1)) ++ drop (8 * (k + 1)) old
  handed_more k b =
      let rest : List ℕ = drop (8 * k) old in
      let m : length old - 8 * k ≡ length rest = sym (length-drop (8 * k) old) in
      let h : length rest ≤ length old - 8 * k = omega arith in
      let e : drop (length old - 8 * k) rest ≡ [] = drop_of_length-le rest h in
      let d : drop 8 rest ≡ drop (8 * (k + 1)) old =
      drop-drop 8 (8 * k) old ∙ ap (λ (x : ℕ). drop x old) (let q : 8 * k + 8 ≡ 8 * (k + 1) = omega arith in q) in
      rw (
        take_at (bytes_of (table f k)) rest (8 * k) (front k),
        drop_at (bytes_of (table f k)) rest (8 * k) (front k),
        take_all (length old - 8 * k) rest h,
        e,
        d,
        more k,
      )
      (ap (λ (y : List ℕ). bytes_of (table f k) ++ y) (append-nil (log_record (f k) ++ drop (8 * (k + 1)) old))
      ∙ sym (append_assoc (bytes_of (table f k)) (log_record (f k)) (drop (8 * (k + 1)) old)))
