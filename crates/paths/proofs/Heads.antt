-- Where the longest path begins: the unmarked vertices are compared, from the last to the first.
use mathlib.Core.Path.{◌≡◌, refl}
use mathlib.Core.Bool.{Bool, true, false, ◌&&◌}
use mathlib.Core.List.{List}
use Prim.Native.Nat.{ℕ, ◌+◌, ◌≤◌, ◌<◌, zero-le}
use native.Mathlib.Omega.{arith}
use native.Mathlib.Decide.{ℕ_discrete}
use lib.Dec.{eqb, leb}
use lib.ListN.{get_or}
use borrow.Author.Tests.{eq-eqb, eqb-true, leb-true, leb-false}
use Rattle.model.proofs.Bools.{clash, both, left-of, right_of, not-true}
use Rattle.paths.specs.Ahead.{weigh, sum_at}
use Rattle.paths.specs.Along.{Comparable, Foremost}

abbrev worth : List ℕ → List ℕ → ℕ → ℕ
worth w s v = sum_at (weigh w) (weigh s) v

-- of those from v on, h is the first that has the largest sum, x; or none of them has it, and h is a vertex that does
pub record Looked (w s m : List ℕ) (n v h x : ℕ) : Type 0 where
  pub vertex : h < n
  pub unmarked : get_or m h 0 ≡ 0
  pub value : x ≡ worth w s h
  pub most : (u : ℕ) → v ≤ u → u < n → get_or m u 0 ≡ 0 → worth w s u ≤ x
  pub first : (u : ℕ) → v ≤ u → u < h → get_or m u 0 ≡ 0 → worth w s u < x

module _ {w s m : List ℕ} {n : ℕ} where
  pub looked_none : {h : ℕ} → Comparable w s m n h → Looked w s m n n h (worth w s h)
  looked_none C = record {
    vertex = C.vertex;
    unmarked = C.unmarked;
    value = refl;
    most = λ u a b. absurd (omega arith);
    first = λ u a b. absurd (omega (arith, C.vertex));
  }

  module _ (j k h x : ℕ) (next : j ≡ k + 1) (below : j ≤ n) (L : Looked w s m n j h x) where
    abbrev test : Bool
    test = eqb (get_or m k 0) 0 && leb x (worth w s k)

    -- k is unmarked, and its sum as large as any after it
    pub looked_taken : test ≡ true → Looked w s m n k k (worth w s k)
    looked_taken t = record {
      vertex = omega arith;
      unmarked = eqb-true (get_or m k 0) 0 (left-of (eqb (get_or m k 0) 0) (leb x (worth w s k)) t);
      value = refl;
      most = λ u a b q. at u a b q (ℕ_discrete u k);
      first = λ u a b. absurd (omega arith);
    }
      where
        larger : x ≤ worth w s k
        larger = leb-true x (worth w s k) (right_of (eqb (get_or m k 0) 0) (leb x (worth w s k)) t)

        at : (u : ℕ) → k ≤ u → u < n → get_or m u 0 ≡ 0 → Dec (u ≡ k) → worth w s u ≤ worth w s k
        at u a b q (yes e) = rw e (omega arith)
        at u a b q (no e) = omega (arith, larger, L.most u (omega (arith, a, e)) b q)

    -- k is marked, or its sum is smaller
    pub looked_left : test ≡ false → Looked w s m n k h x
    looked_left t = record {
      vertex = L.vertex;
      unmarked = L.unmarked;
      value = L.value;
      most = λ u a b q. most u a b q (ℕ_discrete u k);
      first = λ u a b q. first u a b q (ℕ_discrete u k);
    }
      where
        smaller : get_or m k 0 ≡ 0 → worth w s k < x
        smaller z = leb-false x (worth w s k) (not-true (leb x (worth w s k)) (λ l. clash (both (eqb (get_or m k 0) 0) (leb x (worth w s k)) (eq-eqb (get_or m k 0) 0 z) l) t))

        most : (u : ℕ) → k ≤ u → u < n → get_or m u 0 ≡ 0 → Dec (u ≡ k) → worth w s u ≤ x
        most u a b q (yes e) = let d : worth w s u < x = rw e (smaller (rw e at q)) in omega arith
        most u a b q (no e) = L.most u (omega (arith, a, e)) b q

        first : (u : ℕ) → k ≤ u → u < h → get_or m u 0 ≡ 0 → Dec (u ≡ k) → worth w s u < x
        first u a b q (yes e) = rw e (smaller (rw e at q))
        first u a b q (no e) = L.first u (omega (arith, a, e)) b q

  pub looked_all : {h x : ℕ} → Looked w s m n 0 h x → Foremost w s m n h
  looked_all L = record {
    vertex = L.vertex;
    unmarked = L.unmarked;
    most = λ u l q. omega (arith, L.value, L.most u zero-le l q);
    first = λ u l q. omega (arith, L.value, L.first u zero-le l q);
  }
