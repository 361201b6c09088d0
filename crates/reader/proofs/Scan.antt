-- The first place that a number holds for is found on the records, or on the counts.
use mathlib.Core.Path.{◌≡◌, refl, ap, fun_ext}
use mathlib.Core.Bool.{Bool, true, false, ◌||◌}
use mathlib.Core.List.{List}
use Prim.Native.Nat.{ℕ, ◌≤◌, ◌<◌}
use native.Mathlib.Omega.{arith}
use native.Mathlib.Decide.{ℕ_discrete}
use lib.Dec.{eqb, ltb}
use borrow.Author.Tests.{ne_eqb, eqb-true, eqb-false}
use Rattle.model.specs.Places.{pick, first}
use Rattle.model.proofs.Bools.{or_neither}
use Rattle.graph.specs.File.{records, many}
use Rattle.graph.specs.Rules.{holds, per_record_of, places, rule4, rule6, rule8}
use Rattle.graph.specs.Judge.{place_of}
use Rattle.records.specs.Passing.{Counted}
use Rattle.records.specs.declared.Counts.{Counts}
use Rattle.rules.specs.Rows.{of_record, of_counts}

-- the rows that are tested for each record, and those that are tested on the counts
record-row : (s : List ℕ) (num k : ℕ) → per_record_of num ≡ true → of_record s num k ≡ holds s num k
unfolding of_record holds
record-row s num k h = go (ℕ_discrete num 2) (ℕ_discrete num 3) (ℕ_discrete num 5) (ℕ_discrete num 7) (ℕ_discrete num 9)
  where
    go : Dec (num ≡ 2) → Dec (num ≡ 3) → Dec (num ≡ 5) → Dec (num ≡ 7) → Dec (num ≡ 9) → of_record s num k ≡ holds s num k
    go (yes e) x y z w = rw e refl
    go (no a) (yes e) y z w = rw e refl
    go (no a) (no b) (yes e) z w = rw e refl
    go (no a) (no b) (no d) (yes e) w = rw e refl
    go (no a) (no b) (no d) (no f) (yes e) = rw e refl
    go (no a) (no b) (no d) (no f) (no g) =
        let t : eqb num 10 ≡ true = simp (ne_eqb num 2 a, ne_eqb num 3 b, ne_eqb num 5 d, ne_eqb num 7 f, ne_eqb num 9 g) at h in
        let e : num ≡ 10 = eqb-true num 10 t in
        rw e refl

counts-row : (s : List ℕ) (num k : ℕ) (c : Counts) → Counted s c → 2 ≤ num → num < 11 → per_record_of num ≡ false → of_counts c num ≡ holds s num k
unfolding of_counts holds rule4 rule6 rule8
counts-row s num k c n l u h = rw (n.all_kinds, n.all_vertices, n.all_edges) (go (ℕ_discrete num 4) (ℕ_discrete num 6))
  where
    go : Dec (num ≡ 4) → Dec (num ≡ 6)
        → pick (eqb num 4) (eqb (many s 0) 0 || ltb 10 (many s 0)) (pick (eqb num 6) (eqb (many s 1) 0 || ltb 128 (many s 1)) (ltb 1024 (many s 2)))
        ≡ holds s num k
    go (yes e) y = rw e refl
    go (no a) (yes e) = rw e refl
    go (no a) (no b) =
        let x2 = or_neither (eqb num 2) _ h in
        let x3 = or_neither (eqb num 3) _ x2.1 in
        let x5 = or_neither (eqb num 5) _ x3.1 in
        let x7 = or_neither (eqb num 7) _ x5.1 in
        let x9 = or_neither (eqb num 9) _ x7.1 in
        let p : 5 ≤ num = omega (arith, eqb-false num 2 x2.0, eqb-false num 3 x3.0) in
        let q : 8 ≤ num = omega (arith, p, eqb-false num 5 x5.0, eqb-false num 7 x7.0) in
        let e : num ≡ 8 = omega (arith, q, eqb-false num 9 x9.0, eqb-false num 10 x9.1) in
        rw e refl

pub place-record : (s : List ℕ) (num : ℕ) → per_record_of num ≡ true → first (of_record s num) (records s) ≡ place_of s num
unfolding place_of places
place-record s num h = rw h (ap (λ (p : ℕ → Bool). first p (records s)) (fun_ext (λ k. record-row s num k h)))

pub place-counts : (s : List ℕ) (num : ℕ) (c : Counts) → Counted s c → 2 ≤ num → num < 11 → per_record_of num ≡ false
    → pick (of_counts c num) 0 1 ≡ place_of s num
unfolding place_of places first
place-counts s num c n l u h = rw (h, counts-row s num 0 c n l u h) refl
