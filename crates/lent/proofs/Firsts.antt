-- The first places of a table of numbers handed over: as a table, and past them what stood there.
use mathlib.Core.Path.{◌≡◌, refl, ◌∙◌}
use mathlib.Core.List.{List, ◌++◌}
use Prim.Native.Nat.{ℕ, ◌≤◌}
use native.Mathlib.Omega.{arith}
use lib.ListN.{length, get_or, take, drop, length-take}
use Rattle.std.proofs.lemmas.List.{get_or-take}
use Rattle.model.specs.Places.{table}
use Rattle.model.proofs.Tables.{table-length}
use Rattle.model.proofs.Turns.{as_table}

firsts : (l : List ℕ) (n : ℕ) → n ≤ length l → take n l ≡ table (λ v. get_or l v 0) n
firsts l n h = as_table (λ v. get_or l v 0) n (take n l) (omega (arith, length-take n l)) (λ v k. get_or-take n l v 0 k)

pub handed : (l old new : List ℕ) (n : ℕ) → n ≤ length l → new ≡ take n l ++ drop (length (take n l)) old → new ≡ table (λ v. get_or l v 0) n ++ drop n old
handed l old new n h q = q ∙ rw (firsts l n h, table-length (λ v. get_or l v 0) n) refl
