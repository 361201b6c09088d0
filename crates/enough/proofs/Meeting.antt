-- Which numbers of cores meet a limit. Each of the sixteen has its NEW-B-1, which meets the limit or does not; by order 11 more cores meet whatever
-- fewer do. So those that meet it are all from the smallest on.
use mathlib.Core.Path.{◌≡◌}
use mathlib.Core.Logic.{◌⊎◌, inl, inr, ◌↔◌}
use Prim.Native.Nat.{ℕ, ◌/◌, ◌≤◌, ◌<◌}
use native.Mathlib.Omega.{arith}
use Rattle.model.specs.Graph.{Graph, WellFormed}
use Rattle.model.specs.Cycle.{Acyclic}
use Rattle.model.specs.Bounds.{PARTS, NewB1}
use Rattle.model.specs.Better.{with_cores}
use Rattle.model.proofs.Bools.{le-or-lt}
use Rattle.model.proofs.Longest.{new_b_1_exists, new_b_1_unique}
use Rattle.model.proofs.Changes.{cores_well, cores-acyclic, cores-between}
use Rattle.enough.specs.Answers.{Meets, Smallest}

-- THEOREM. Whether a number meets the limit is told by its NEW-B-1.
pub meets-within : {G : Graph} {s d m B : ℕ} → NewB1 (with_cores G s m) B → Meets G s d m ↔ (B / PARTS ≤ d)
meets-within {B = B} x =
    (λ M. omega (arith, M.within, new_b_1_unique M.new B M.is_new x), λ l. record { new = B; is_new = x; within = l })

module _ {G : Graph} (W : WellFormed G) (A : Acyclic G) (s : ℕ) where
  -- THEOREM. Each of the sixteen numbers has its NEW-B-1.
  pub new-there : (m : ℕ) → 1 ≤ m → m ≤ 16 → (B : ℕ) × NewB1 (with_cores G s m) B
  new-there m l k = new_b_1_exists (cores_well W s m (λ j. omega arith) k) (cores-acyclic A s m)

  -- THEOREM. More cores, up to 16, meet whatever limit fewer do.
  pub meets-more : {d : ℕ} (a b : ℕ) → 1 ≤ a → a ≤ b → b ≤ 16 → Meets G s d a → Meets G s d b
  meets-more a b l m k M =
      let x = new-there b (omega arith) k in
      record { new = x.0; is_new = x.1; within = omega (arith, M.within, cores-between W A s a b (omega arith) m k M.new x.0 M.is_new x.1) }

  -- THEOREM. Every number from the smallest up to 16 meets the limit too.
  pub from-smallest : {d c : ℕ} → Smallest G s d c → (m : ℕ) → c ≤ m → m ≤ 16 → Meets G s d m
  from-smallest {c = c} S m l k = meets-more c m S.least l k S.meets

-- THEOREM. The smallest is at most any number that meets the limit.
pub smallest-below : {G : Graph} {s d c : ℕ} → Smallest G s d c → (m : ℕ) → 1 ≤ m → Meets G s d m → c ≤ m
smallest-below {c = c} S m l M = go (le-or-lt c m)
  where
    go : (c ≤ m) ⊎ (m < c) → c ≤ m
    go (inl k) = k
    go (inr k) = absurd (S.no_smaller m l k M)

-- THEOREM. There is one smallest at most.
pub smallest_unique : {G : Graph} {s d c c' : ℕ} → Smallest G s d c → Smallest G s d c' → c ≡ c'
smallest_unique {c = c} {c' = c'} S T = omega (arith, smallest-below S c' T.least T.meets, smallest-below T c S.least S.meets)
