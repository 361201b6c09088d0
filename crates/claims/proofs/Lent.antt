-- A lent list whose first places were written.
use mathlib.Core.Path.{◌≡◌, ap, ◌∙◌}
use mathlib.Core.List.{List, ◌++◌}
use Prim.Native.Nat.{ℕ, ◌+◌, ◌-◌, ◌≤◌}
use native.Mathlib.Omega.{arith}
use lib.ListN.{length, get_or, drop}
use lib.Seq.{get_or-append-add, get_or-drop}

-- past them it is as it was
pub kept-past : (xs old : List ℕ) {n : ℕ} → length xs ≡ n → (i : ℕ) → n ≤ i → get_or (xs ++ drop n old) i 0 ≡ get_or old i 0
kept-past xs old {n} e i l =
    let d : length xs + (i - n) ≡ i = omega arith in
    let b : n + (i - n) ≡ i = omega arith in
    rw d at (get_or-append-add xs (drop n old) (i - n) 0) ∙ get_or-drop n old (i - n) 0 ∙ ap (λ (j : ℕ). get_or old j 0) b
