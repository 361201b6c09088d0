-- What acceptance tells, and what gives it: no row of the table, from a number on, holds for any place.
use mathlib.Core.Path.{◌≡◌, refl}
use mathlib.Core.Bool.{false}
use mathlib.Core.List.{List}
use Prim.Native.Nat.{ℕ, ◌≤◌, ◌<◌}
use native.Mathlib.Omega.{arith}
use lib.Dec.{eqb, ltb, lit<, lit≤}
use borrow.Author.Tests.{le-ltb, ltb-false}
use Rattle.model.proofs.Bools.{or_neither}
use Rattle.model.proofs.Places.{first-none}
use Rattle.graph.specs.File.{many}
use Rattle.graph.specs.Rules.{holds, places, rule4, rule6, rule8}
use Rattle.graph.specs.Judge.{place_of, applies, judge_from}
use Rattle.graph.specs.Answer.{Accepted}
use Rattle.graph.proofs.Judging.{none-holds, lowest-past}

-- a number that holds for no place does not apply
quiet : (s : List ℕ) (num : ℕ) → ((k : ℕ) → k < places s num → holds s num k ≡ false) → applies s num ≡ false
unfolding applies place_of
quiet s num h = rw (first-none (holds s num) (places s num) h) (le-ltb (places s num) (places s num) (omega arith))

pub all_quiet : (a : ℕ) (s : List ℕ) → a ≤ 12 → ((num : ℕ) → a ≤ num → num < 12 → (k : ℕ) → k < places s num → holds s num k ≡ false)
    → judge_from a s ≡ Accepted
unfolding judge_from
all_quiet a s f h = rw (lowest-past s a 12 f (λ j l g. quiet s j (h j g l)) refl) refl

-- a file that is accepted from a number on is accepted from each later one
pub accepted-from : (a b : ℕ) (s : List ℕ) → a ≤ b → b ≤ 12 → judge_from a s ≡ Accepted → judge_from b s ≡ Accepted
accepted-from a b s f g ok = all_quiet b s g (λ num x y. none-holds a s ok num (omega arith) y)

-- the numbers 4, 6 and 8 bound the counts
module _ (s : List ℕ) (ok : judge_from 4 s ≡ Accepted) where
  pub few-types : many s 0 ≤ 10
  unfolding places holds rule4
  few-types = ltb-false 10 (many s 0) (or_neither (eqb (many s 0) 0) (ltb 10 (many s 0)) (none-holds 4 s ok 4 (lit≤ tt) (lit< tt) 0 (lit< tt))).1

  pub few_vertices : many s 1 ≤ 128
  unfolding places holds rule6
  few_vertices = ltb-false 128 (many s 1) (or_neither (eqb (many s 1) 0) (ltb 128 (many s 1)) (none-holds 4 s ok 6 (lit≤ tt) (lit< tt) 0 (lit< tt))).1

  pub few_edges : many s 2 ≤ 1024
  unfolding places holds rule8
  few_edges = ltb-false 1024 (many s 2) (none-holds 4 s ok 8 (lit≤ tt) (lit< tt) 0 (lit< tt))
