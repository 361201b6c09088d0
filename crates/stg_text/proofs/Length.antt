-- The text of a graph is within the limit: a task's line has 419 bytes at most, since all the numbers below 128 take no more than 402.
use mathlib.Core.Path.{◌≡◌, refl}
use mathlib.Core.Bool.{Bool, true, false}
use mathlib.Core.List.{List, [], ◌∷◌, ◌++◌}
use Prim.Native.Nat.{ℕ, zero, suc, ◌+◌, ◌-◌, ◌*◌, ◌≤◌, ◌<◌}
use native.Mathlib.Omega.{arith}
use lib.ListN.{length, length-append}
use Rattle.model.specs.Places.{pick, sum, along, that}
use Rattle.writer.specs.Write.{joined}
use Rattle.stg_text.specs.Layout.{LIMIT}
use Rattle.stg_text.specs.Canonical.{digits_of, decimal, spaced, line_of, before, task_of, task_line_of, lay_out_of}
use Rattle.stg_text.proofs.Digits.{decimal-length}
use Rattle.stg_text.proofs.Those.{those_ascends, ascends-length}

-- a number's digits, and a byte behind them
unfoldable width : ℕ → ℕ
width x = suc (length (decimal x))

along-append : (f : ℕ → ℕ) (a b : List ℕ) → along f (a ++ b) ≡ along f a + along f b
unfolding along
along-append f [] b = omega arith
along-append f (x ∷ a) b = rw (along-append f a b) (omega arith)

line-length : (xs : List ℕ) → length (line_of xs) ≤ suc (along width xs)
unfolding line_of spaced along width
line-length [] = omega arith
line-length (x ∷ []) = rw (length-append (decimal x) (10 ∷ [])) (omega arith)
line-length (x ∷ y ∷ xs) =
    rw (length-append (decimal x ++ (32 ∷ spaced (y ∷ xs))) (10 ∷ []), length-append (decimal x) (32 ∷ spaced (y ∷ xs)))
    (omega (arith, rw (length-append (spaced (y ∷ xs)) (10 ∷ [])) at (line-length (y ∷ xs))))

those_width : (p : ℕ → Bool) (n : ℕ) → along width (that p n) ≤ sum width n
unfolding that sum along
those_width p zero = omega arith
those_width p (suc n) = rw (along-append width (that p n) (pick (p n) (n ∷ []) [])) (go (p n) (those_width p n))
  where
    go : (b : Bool) → along width (that p n) ≤ sum width n → along width (that p n) + along width (pick b (n ∷ []) []) ≤ sum width n + width n
    go true h = omega arith
    go false h = omega arith

sum-up : (f : ℕ → ℕ) (n d : ℕ) → sum f n ≤ sum f (n + d)
unfolding sum
sum-up f n zero = let e : n + 0 ≡ n = omega arith in rw e (omega arith)
sum-up f n (suc d) = let e : n + suc d ≡ suc (n + d) = omega arith in rw e (omega (arith, sum-up f n d))

all_widths : sum width 128 ≡ 402
unfolding sum width decimal digits_of
all_widths = refl

joined-most : (f : ℕ → List ℕ) (c n : ℕ) → ((v : ℕ) → v < n → length (f v) ≤ c) → length (joined f n) ≤ c * n
unfolding joined
joined-most f c zero h = omega arith
joined-most f c (suc n) h = rw (length-append (joined f n) (f n)) (omega (arith, joined-most f c n (λ v l. h v (omega arith)), h n (omega arith)))

module _ (n : ℕ) (time : ℕ → ℕ) (pred : ℕ → ℕ → Bool) (few : n ≤ 126) (short : (v : ℕ) → v < n + 2 → time v ≤ 1000000) where
  task-length : (v : ℕ) → v < n + 2 → length (task_line_of n time pred v) ≤ 419
  unfolding task_line_of task_of along width before
  task-length v l =
      let a : length (decimal v) ≤ 3 = decimal-length v 2 (omega arith) in
      let t : length (decimal (time v)) ≤ 7 = decimal-length (time v) 6 (omega (arith, short v l)) in
      let m : length (before n pred v) ≤ n + 2 = omega (arith, ascends-length 0 (before n pred v) (those_ascends (λ u. pred u v) (n + 2)) (omega arith)) in
      let c : length (decimal (length (before n pred v))) ≤ 3 = decimal-length (length (before n pred v)) 2 (omega arith) in
      let e : (n + 2) + (126 - n) ≡ 128 = omega arith in
      let s : sum width (n + 2) ≤ 402 = omega (arith, rw (e, all_widths) at (sum-up width (n + 2) (126 - n))) in
      let w = those_width (λ u. pred u v) (n + 2) in
      omega (arith, line-length (task_of n time pred v))

  pub laid-short : length (lay_out_of n time pred) ≤ LIMIT
  unfolding lay_out_of along width
  laid-short =
      let a : length (decimal n) ≤ 3 = decimal-length n 2 (omega arith) in
      let h = joined-most (task_line_of n time pred) 419 (n + 2) task-length in
      rw (length-append (line_of (n ∷ [])) (joined (task_line_of n time pred) (n + 2))) (omega (arith, line-length (n ∷ [])))
