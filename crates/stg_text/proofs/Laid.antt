-- The text that the writer lays out, read line by line: it says what it was made from.
use mathlib.Core.Path.{◌≡◌, refl, ap, ◌∙◌}
use mathlib.Core.Bool.{Bool, true, false, not, ◌&&◌, ◌||◌}
use mathlib.Core.List.{List, [], ◌∷◌, ◌++◌, append_assoc, append-nil}
use mathlib.Core.Logic.{◌⊎◌, inl, inr}
use Prim.Native.Nat.{ℕ, zero, suc, ◌+◌, ◌-◌, ◌/◌, ◌%◌, ◌^◌, ◌≤◌, ◌<◌, max}
use native.Mathlib.Omega.{arith}
use native.Mathlib.Decide.{ℕ_discrete}
use lib.ListN.{length, length-append, get_or-append}
use lib.Seq.{get_or_at}
use lib.Dec.{eqb, ltb}
use borrow.Author.Tests.{eq-eqb, ne_eqb, lt-ltb, le-ltb, le-leb, lt-leb}
use Rattle.model.specs.Places.{pick, that}
use Rattle.model.proofs.Bools.{le-or-lt}
use Rattle.model.proofs.Places.{first-none}
use Rattle.writer.specs.Write.{joined}
use Rattle.stg_text.specs.Fields.{pieces, member, feed, numbers}
use Rattle.stg_text.specs.Layout.{line_at, ended, begun, tasks, count_line, within, task_line, skipped, fits, faulty, lines_due, fault_at, LIMIT, outside}
use Rattle.stg_text.specs.Says.{time_of, before_of, edge_said}
use Rattle.stg_text.specs.Canonical.{spaced, line_of, before, task_of, task_line_of, lay_out_of}
use Rattle.stg_text.proofs.Pieces.{pieces-cut}
use Rattle.stg_text.proofs.Digits.{Small}
use Rattle.stg_text.proofs.Spaced.{AllSmall, none, more, spaced-free, spaced-numerals, spaced-numbers, rows, rows-length, rows_at, joined-pieces}
use Rattle.stg_text.proofs.Those.{Ascends, nil, cons, member_those, those_all, those_ascends, ascends-distinct, ascends-length}

ascends-small : {hi : ℕ} (lo : ℕ) (xs : List ℕ) → hi ≤ 10 ^ 10 → Ascends hi lo xs → AllSmall xs
ascends-small lo [] h nil = none
ascends-small lo (x ∷ xs) h (cons a b r) = more {x = x} (omega arith) (ascends-small (suc x) xs h r)

-- n tasks beside the entry and the exit, and times of ten digits at most
module _ (n : ℕ) (time : ℕ → ℕ) (pred : ℕ → ℕ → Bool) (some : 1 ≤ n) (few : n ≤ 126) (small : (v : ℕ) → v < n + 2 → Small (time v)) where
  abbrev text : List ℕ
  text = lay_out_of n time pred

  -- a line without its line feed
  abbrev row : ℕ → List ℕ
  row v = spaced (task_of n time pred v)

  lines : pieces feed text ≡ spaced (n ∷ []) ∷ (rows row (n + 2) ++ ([] ∷ []))
  unfolding lay_out_of line_of task_line_of feed pieces
  lines =
      rw (append_assoc (spaced (n ∷ [])) (10 ∷ []) (joined (task_line_of n time pred) (n + 2)))
      (pieces-cut feed (spaced (n ∷ [])) 10 (joined (task_line_of n time pred) (n + 2)) (spaced-free (n ∷ [])) refl
      ∙ ap (λ (r : List (List ℕ)). spaced (n ∷ []) ∷ r) all-rows)
    where
      all-rows : pieces feed (joined (task_line_of n time pred) (n + 2)) ≡ rows row (n + 2) ++ ([] ∷ [])
      all-rows =
          rw (← append-nil (joined (task_line_of n time pred) (n + 2)))
          (joined-pieces row (task_line_of n time pred) (λ v. refl) (λ v. spaced-free (task_of n time pred v)) (n + 2) [])

  pub first-line : line_at text 0 ≡ spaced (n ∷ [])
  unfolding line_at
  first-line = rw lines refl

  pub task-line : (v : ℕ) → v < n + 2 → line_at text (suc v) ≡ row v
  unfolding line_at
  task-line v l = rw lines (get_or-append (rows row (n + 2)) ([] ∷ []) [] v (rw (rows-length row (n + 2)) l) ∙ rows_at row (n + 2) v l)

  pub laid-ended : ended text ≡ n + 3
  unfolding ended
  laid-ended = rw (lines, length-append (rows row (n + 2)) ([] ∷ []), rows-length row (n + 2)) (omega arith)

  pub laid-begun : begun text ≡ n + 3
  unfolding begun line_at
  laid-begun =
      let e : n + 3 ≡ suc (n + 2) = omega arith in
      rw (laid-ended, lines, e, get_or_at (rows row (n + 2)) [] [] [] (n + 2) (rows-length row (n + 2))) (omega arith)

  -- ---- what the lines say

  count_small : AllSmall (n ∷ [])
  count_small = more {x = n} (omega arith) none

  task-small : (v : ℕ) → v < n + 2 → AllSmall (task_of n time pred v)
  unfolding task_of before
  task-small v l =
      let r : Ascends (n + 2) 0 (before n pred v) = those_ascends (λ u. pred u v) (n + 2) in
      more {x = v} (omega arith) (more (small v l) (more {x = length (before n pred v)} (omega (arith, ascends-length 0 (before n pred v) r (omega arith))) (ascends-small 0 (before n pred v) (omega arith) r)))

  pub count-numbers : numbers (line_at text 0) ≡ n ∷ []
  count-numbers = rw first-line (spaced-numbers (n ∷ []) count_small)

  pub task-numbers : (v : ℕ) → v < n + 2 → numbers (line_at text (suc v)) ≡ task_of n time pred v
  task-numbers v l = rw (task-line v l) (spaced-numbers (task_of n time pred v) (task-small v l))

  pub laid-tasks : tasks text ≡ n
  unfolding tasks
  laid-tasks = rw count-numbers refl

  pub laid-time : (v : ℕ) → v < n + 2 → time_of text v ≡ time v
  unfolding time_of task_of
  laid-time v l = rw (task-numbers v l) refl

  pub laid-before : (v : ℕ) → v < n + 2 → before_of text v ≡ before n pred v
  unfolding before_of task_of
  laid-before v l = rw (task-numbers v l) refl

  pub laid-edge : (k : ℕ) → edge_said text k ≡ ltb (k % 256) (n + 2) && (ltb (k / 256) (n + 2) && pred (k / 256) (k % 256))
  unfolding edge_said before
  laid-edge k = rw laid-tasks (go (le-or-lt (n + 2) (k % 256)))
    where
      go : (n + 2 ≤ k % 256) ⊎ (k % 256 < n + 2)
          → ltb (k % 256) (n + 2) && member (k / 256) (before_of text (k % 256)) ≡ ltb (k % 256) (n + 2) && (ltb (k / 256) (n + 2) && pred (k / 256) (k % 256))
      go (inl h) = rw (le-ltb (k % 256) (n + 2) h) refl
      go (inr l) = rw (laid-before (k % 256) l, member_those (λ u. pred u (k % 256)) (n + 2) (k / 256)) refl

  -- ---- that no line is at fault, where the entry and the exit have time 0

  module _ (entry : time 0 ≡ 0) (exit : time (n + 1) ≡ 0) (short : length text ≤ LIMIT) where
    count_fits : count_line (line_at text 0) ≡ true
    unfolding count_line
    count_fits = rw (count-numbers, first-line, spaced-numerals (n ∷ []) count_small, le-leb 1 n some, le-leb n 126 few) refl

    task-fits : (v : ℕ) → v < n + 2 → task_line n v (line_at text (suc v)) ≡ true
    unfolding task_line task_of before
    task-fits v l =
        rw (
          task-numbers v l,
          task-line v l,
          spaced-numerals (task_of n time pred v) (task-small v l),
          eq-eqb v v refl,
          ends (ℕ_discrete v 0) (ℕ_discrete v (n + 1)),
          eq-eqb (length (before n pred v)) (length (before n pred v)) refl,
          those_all (within n) (λ u. pred u v) (n + 2) (λ u b. unfold within in le-leb u (n + 1) (omega arith)),
          ascends-distinct 0 (that (λ u. pred u v) (n + 2)) (those_ascends (λ u. pred u v) (n + 2)),
        ) refl
      where
        ends : Dec (v ≡ 0) → Dec (v ≡ n + 1) → not (eqb v 0 || eqb v (n + 1)) || eqb (time v) 0 ≡ true
        ends (yes e) y = rw (e, entry) refl
        ends (no d) (yes e) = rw (e, exit, ne_eqb (n + 1) 0 (λ q. omega arith), eq-eqb (n + 1) (n + 1) refl) refl
        ends (no d) (no f) = rw (ne_eqb v 0 d, ne_eqb v (n + 1) f) refl

    line-fits : (i : ℕ) → i < n + 3 → faulty text i ≡ false
    unfolding faulty fits
    line-fits i l = rw (laid-ended, laid-tasks, lt-leb (n + 3) i l) (go i l)
      where
        go : (i : ℕ) → i < n + 3 → not (pick (eqb i 0) (count_line (line_at text i)) (pick (ltb i (n + 3)) (task_line n (i - 1) (line_at text i)) (skipped (line_at text i)))) ≡ false
        go zero l = rw count_fits refl
        go (suc v) l =
            let e : suc v - 1 ≡ v = omega arith in
            rw (ne_eqb (suc v) 0 (λ q. omega arith), lt-ltb (suc v) (n + 3) l, e, task-fits v (omega arith)) refl

    pub laid-inside : outside text ≡ false
    unfolding outside fault_at lines_due
    laid-inside =
        let e : max (n + 3) (n + 3) ≡ n + 3 = omega arith in
        rw (le-ltb LIMIT (length text) short, laid-tasks, laid-begun, e, first-none (faulty text) (n + 3) line-fits, le-ltb (n + 3) (n + 3) (omega arith)) refl
