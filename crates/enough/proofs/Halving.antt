-- The sixteen numbers, halved: what the number in the middle tells of those on either side of it.
use Prim.Native.Nat.{ℕ, ◌+◌, ◌≤◌, ◌<◌}
use native.Mathlib.Omega.{arith}
use Rattle.model.specs.Graph.{Graph, WellFormed}
use Rattle.model.specs.Cycle.{Acyclic}
use Rattle.enough.specs.Answers.{Meets, NoneMeets, Smallest}
use Rattle.enough.specs.Halving.{Between}
use Rattle.enough.proofs.Meeting.{meets-more}

module _ {G : Graph} {s d : ℕ} where
  pub all_sixteen : Between G s d 1 17
  all_sixteen = record {
    least = omega arith;
    ordered = omega arith;
    most = omega arith;
    none_below = λ m l k M. omega arith;
    there = λ l. absurd (omega arith);
  }

  module _ {low high : ℕ} (B : Between G s d low high) (m : ℕ) (from : low ≤ m) (to : m < high) where
    pub lower-half : Meets G s d m → Between G s d low m
    lower-half M = record { least = B.least; ordered = from; most = omega (arith, B.most); none_below = B.none_below; there = λ l. M }

    -- whoever is below one that does not meet the limit does not either
    pub upper_half : WellFormed G → Acyclic G → (Meets G s d m → ⊥) → Between G s d (m + 1) high
    upper_half W A not = record {
      least = omega arith;
      ordered = omega arith;
      most = B.most;
      none_below = λ a l k M. not (meets-more W A s a m l (omega arith) (omega (arith, B.most)) M);
      there = B.there;
    }

  module _ {c : ℕ} (B : Between G s d c c) where
    pub one_left : c ≤ 16 → Smallest G s d c
    one_left l = record { least = B.least; most = l; meets = B.there l; no_smaller = B.none_below }

    pub none_left : 16 < c → NoneMeets G s d
    none_left l m k j = B.none_below m k (omega arith)
