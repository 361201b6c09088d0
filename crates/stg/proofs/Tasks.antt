-- The numbers of a task's line.
use mathlib.Core.Path.{◌≡◌, refl, ap, ◌∙◌}
use mathlib.Core.Bool.{Bool, true, false, not, ◌&&◌, ◌||◌}
use mathlib.Core.List.{List, [], ◌∷◌}
use Prim.Native.Nat.{ℕ, suc, ◌-◌, ◌≤◌, ◌<◌, min}
use native.Mathlib.Omega.{arith}
use lib.ListN.{length, get_or, drop}
use lib.Dec.{eqb}
use Rattle.model.proofs.Bools.{clash, not-true, left-of, right_of, both}
use Rattle.stg_text.specs.Fields.{all, distinct, numerals, numbers}
use Rattle.stg_text.specs.Layout.{at_ends, within, task, task_line}
use Rattle.stg_scan.specs.Rest.{until_feed, has_feed, lawful}
use Rattle.stg.specs.Rows.{LineRead, TaskRead}
use Rattle.stg.specs.declared.row.Row.{Row}

and-true : (a : Bool) → a && true ≡ a
and-true true = refl
and-true false = refl

pub task-short : (n v : ℕ) (xs : List ℕ) → length xs < 3 → task n v xs ≡ false
task-short n v [] l = refl
task-short n v (a ∷ []) l = refl
task-short n v (a ∷ b ∷ []) l = refl
task-short n v (a ∷ b ∷ c ∷ xs) l = absurd (omega arith)

pub task-is : (n v : ℕ) (xs : List ℕ) → 3 ≤ length xs → lawful n xs ≡ true
    → task n v xs ≡ eqb (get_or xs 0 0) v && ((not (at_ends n v) || eqb (get_or xs 1 0) 0) && eqb (length xs - 3) (get_or xs 2 0))
unfolding lawful
task-is n v [] l h = absurd (omega arith)
task-is n v (a ∷ []) l h = absurd (omega arith)
task-is n v (a ∷ b ∷ []) l h = absurd (omega arith)
task-is n v (a ∷ b ∷ c ∷ xs) l h =
    let e : suc (suc (suc (length xs))) - 3 ≡ length xs = omega arith in
    rw (e, h) (ap (λ (z : Bool). eqb a v && ((not (at_ends n v) || eqb b 0) && z)) (and-true (eqb (length xs) c)))

-- the numbers of a task are lawful
pub task-lawful : (n v : ℕ) (xs : List ℕ) → task n v xs ≡ true → lawful n xs ≡ true
unfolding lawful
task-lawful n v [] h = refl
task-lawful n v (a ∷ []) h = refl
task-lawful n v (a ∷ b ∷ []) h = refl
task-lawful n v (a ∷ b ∷ c ∷ xs) h =
    right_of (eqb (length xs) c) (all (within n) xs && distinct xs)
    (right_of (not (at_ends n v) || eqb b 0) (eqb (length xs) c && (all (within n) xs && distinct xs))
    (right_of (eqb a v) ((not (at_ends n v) || eqb b 0) && (eqb (length xs) c && (all (within n) xs && distinct xs))) h))

-- ---- a line

module _ (s : List ℕ) (at n v : ℕ) where
  pub line-fault : has_feed (drop at s) && (numerals (until_feed (drop at s)) && lawful n (numbers (until_feed (drop at s)))) ≡ false
      → has_feed (drop at s) && task_line n v (until_feed (drop at s)) ≡ false
  unfolding task_line
  line-fault h =
      let l : List ℕ = until_feed (drop at s) in
      not-true (has_feed (drop at s) && (numerals l && task n v (numbers l))) (λ t.
      let f = left-of (has_feed (drop at s)) (numerals l && task n v (numbers l)) t in
      let g = right_of (has_feed (drop at s)) (numerals l && task n v (numbers l)) t in
      let x = left-of (numerals l) (task n v (numbers l)) g in
      let y = right_of (numerals l) (task n v (numbers l)) g in
      clash (both (has_feed (drop at s)) (numerals l && lawful n (numbers l)) f (both (numerals l) (lawful n (numbers l)) x (task-lawful n v (numbers l) y))) h)

  module _ (r : Row) (e : ℕ) (L : LineRead s at n r e) where
    line-task : has_feed (drop at s) && task_line n v (until_feed (drop at s)) ≡ task n v (numbers (until_feed (drop at s)))
    unfolding task_line
    line-task = rw (L.ends, L.all_numerals) refl

    pub task-fault : task n v (numbers (until_feed (drop at s))) ≡ false → has_feed (drop at s) && task_line n v (until_feed (drop at s)) ≡ false
    task-fault f = line-task ∙ f

    pub task-read : (time : ℕ) → time ≡ min r.time 4294967295 → task n v (numbers (until_feed (drop at s))) ≡ true → TaskRead s at n v time r.before e
    task-read time t f =
        record {
          fine = line-task ∙ f;
          has_time = t ∙ ap (λ (x : ℕ). min x 4294967295) L.holds.has_time;
          has_before = L.holds.has_before;
          past = L.past;
          further = L.further;
          to = L.to;
        }
