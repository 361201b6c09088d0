-- Times that are judged to fit, do.
use mathlib.Core.Path.{◌≡◌, refl}
use mathlib.Core.List.{List}
use mathlib.Core.Bool.{Bool, true, false}
use Prim.Native.Nat.{ℕ, ◌≤◌}
use native.Mathlib.Omega.{arith}
use lib.Dec.{eqb, ltb}
use lib.ListN.{get_or, length, get_or-eq_default}
use borrow.Author.Tests.{eqb-true, ltb-false}
use Rattle.model.specs.Places.{pick, first}
use Rattle.model.proofs.Places.{first_below}
use Rattle.graph.specs.declared.Graph.{Graph}
use Rattle.graph.specs.Answer.{Answer}
use Rattle.graph.specs.Answer.{Accepted, Refused}
use Rattle.times.specs.Times.{times_of, too_long_of, judge_times, Fitting}

pub times_fit : (g : Graph) (l : List ℕ) → judge_times g l ≡ Accepted → Fitting g l
unfolding judge_times too_long_of
times_fit g l ok = go (eqb (length l) g.n) refl (ltb (first (too_long_of g.wcet l) g.n) g.n) refl ok
  where
    go : (a : Bool) → eqb (length l) g.n ≡ a → (b : Bool) → ltb (first (too_long_of g.wcet l) g.n) g.n ≡ b
        → ◌≡◌ {A = Answer} (pick a (pick b (Refused (record { number = 14; place = first (too_long_of g.wcet l) g.n })) Accepted) (Refused (record { number = 13; place = 0 }))) Accepted
        → Fitting g l
    go false p b q e = absurd (let z : ◌≡◌ {A = ℕ} 0 1 = cc in omega arith)
    go true p true q e = absurd (let z : ◌≡◌ {A = ℕ} 0 1 = cc in omega arith)
    go true p false q e = record {
      as_many = eqb-true (length l) g.n p;
      short = λ v h. ltb-false (get_or g.wcet v 0) (get_or l v 0) (first_below (too_long_of g.wcet l) g.n v (omega (arith, ltb-false (first (too_long_of g.wcet l) g.n) g.n q)));
    }

-- such times are 0 from N on
pub none_past : (g : Graph) (l : List ℕ) → Fitting g l → (v : ℕ) → g.n ≤ v → times_of l v ≡ 0
none_past g l fit v h = get_or-eq_default l 0 (omega (arith, fit.as_many))
