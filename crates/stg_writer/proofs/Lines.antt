-- The text, line by line.
use mathlib.Core.Path.{◌≡◌, refl, sym}
use mathlib.Core.List.{List, [], ◌∷◌, ◌++◌, append_assoc, append-nil}
use Prim.Native.Nat.{ℕ, zero, suc, ◌+◌, ◌-◌, ◌≤◌, ◌<◌}
use native.Mathlib.Omega.{arith}
use native.Mathlib.Numerals.{add-one}
use lib.ListN.{length, get_or, length-append}
use Rattle.writer.specs.Write.{joined}
use Rattle.vset.specs.Members.{is_in}
use Rattle.sets.specs.Sets.{row_of}
use Rattle.stg_text.specs.Canonical.{line_of}
use Rattle.stg_line.specs.Laid.{task_text}
use Rattle.stg_text.proofs.Digits.{decimal-length}
use Rattle.stg_line.proofs.Laying.{Put, put_then, line-long}
use Rattle.stg_writer.specs.Before.{line_in, lines_in, text_in}

module _ (n : ℕ) (t : List (List ℕ)) (w : List ℕ) where
  pub lines_none : lines_in n t w 0 ≡ line_of ((n - 2) ∷ [])
  unfolding lines_in joined
  lines_none = append-nil (line_of ((n - 2) ∷ []))

  pub lines_more : (v : ℕ) → lines_in n t w (v + 1) ≡ lines_in n t w v ++ task_text v (get_or w v 0) (is_in (row_of t v))
  unfolding lines_in joined line_in
  lines_more v = rw (add-one v) (sym (append_assoc (line_of ((n - 2) ∷ [])) (joined (line_in t w) v) (task_text v (get_or w v 0) (is_in (row_of t v)))))

  pub lines_long : (v : ℕ) → length (lines_in n t w (v + 1)) ≡ length (lines_in n t w v) + length (task_text v (get_or w v 0) (is_in (row_of t v)))
  lines_long v = rw (lines_more v) (length-append (lines_in n t w v) (task_text v (get_or w v 0) (is_in (row_of t v))))

  lines-up : (v d : ℕ) → length (lines_in n t w v) ≤ length (lines_in n t w (v + d))
  lines-up v zero = let e : v + 0 ≡ v = omega arith in rw e (omega arith)
  lines-up v (suc d) = let e : v + suc d ≡ v + d + 1 = omega arith in rw e (omega (arith, lines-up v d, lines_long (v + d)))

  -- a line has room where the text has
  pub lines_fit : (v : ℕ) → v < n → length (lines_in n t w v) + length (task_text v (get_or w v 0) (is_in (row_of t v))) ≤ length (text_in n t w)
  unfolding text_in
  lines_fit v l = let e : v + 1 + (n - (v + 1)) ≡ n = omega arith in omega (arith, lines_long v, rw e at (lines-up (v + 1) (n - (v + 1))))

  pub first_fits : length (line_of ((n - 2) ∷ [])) ≤ length (text_in n t w)
  unfolding text_in
  first_fits = let e : 0 + n ≡ n = omega arith in rw (e, lines_none) at (lines-up 0 n)

  pub first-few : n ≤ 1000 → length (line_of ((n - 2) ∷ [])) ≤ 10
  first-few l = omega (arith, line-long (n - 2), decimal-length (n - 2) 2 (omega arith))

  -- ---- the lines of the vertices, after the first line o₀

  module _ (o o₀ : List ℕ) (i₀ : ℕ) (F : Put o 0 i₀ o₀ (line_of ((n - 2) ∷ []))) where
    pub rows_none : Put o₀ i₀ i₀ o₀ (joined (line_in t w) 0)
    unfolding joined
    rows_none = record { is = omega arith; laid = refl }

    -- with the first line, they are the lines up to v
    pub rows-lines : (v i : ℕ) (o' : List ℕ) → Put o₀ i₀ i o' (joined (line_in t w) v) → Put o 0 i o' (lines_in n t w v)
    unfolding lines_in
    rows-lines v i o' P = put_then o 0 i₀ o₀ (line_of ((n - 2) ∷ [])) i o' (joined (line_in t w) v) F P

  pub rows_more : (o₀ : List ℕ) (i₀ v i : ℕ) (o' : List ℕ) (r : ℕ) (o'' : List ℕ) → Put o₀ i₀ i o' (joined (line_in t w) v) → Put o' i r o'' (task_text v (get_or w v 0) (is_in (row_of t v)))
      → Put o₀ i₀ r o'' (joined (line_in t w) (v + 1))
  unfolding joined line_in
  rows_more o₀ i₀ v i o' r o'' P Q = rw (add-one v) (put_then o₀ i₀ i o' (joined (line_in t w) v) r o'' (task_text v (get_or w v 0) (is_in (row_of t v))) P Q)
