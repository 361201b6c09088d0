-- The numbers of paths from the vertices to a sink: each follows from those of the successors, and none is above the number of complete
-- paths. The smaller of L and a sum is the same for terms that are cut at L.
use mathlib.Core.Path.{◌≡◌, refl, ap, ◌∙◌}
use mathlib.Core.Logic.{◌⊎◌, inl, inr}
use mathlib.Core.Bool.{Bool, false}
use Prim.Native.Nat.{ℕ, zero, suc, ◌≤◌, ◌<◌, min}
use native.Mathlib.Omega.{arith}
use Rattle.model.specs.Places.{pick, sum}
use Rattle.model.specs.Graph.{Graph, Edge, Source, source, sink, WellFormed}
use Rattle.model.specs.Cycle.{Acyclic}
use Rattle.model.specs.PathCount.{ways_within, ways, path_count}
use Rattle.model.proofs.Bools.{not-true}
use Rattle.model.proofs.Sums.{sum_term}
use Rattle.model.proofs.Cycles.{ranked}
use Rattle.model.proofs.Paths.{source-tells, sink-tells, source-or}
use Rattle.model.proofs.Numbered.{same_number}
use Rattle.model.proofs.Counted.{from-numbered}

pub min-sum : (L : ℕ) (f g : ℕ → ℕ) (n : ℕ) → ((i : ℕ) → i < n → min L (f i) ≡ min L (g i)) → min L (sum f n) ≡ min L (sum g n)
unfolding sum
min-sum L f g zero h = refl
min-sum L f g (suc n) h = omega (arith, min-sum L f g n (λ i l. h i (omega arith)), h n (omega arith))

module _ {G : Graph} (W : WellFormed G) (A : Acyclic G) where
  -- THEOREM. From a sink there is one path, from another vertex as many as from its successors.
  pub ways-step : (v : ℕ) → v < G.n → ways G v ≡ pick (sink G v) 1 (sum (λ u. pick (G.edge v u) (ways G u) 0) G.n)
  unfolding ways ways_within
  ways-step v l = same_number (from-numbered W A G.n v l (omega arith)) (from-numbered W A (suc G.n) v l (omega arith))

  ways-up : (u v : ℕ) → Edge G u v → ways G v ≤ ways G u
  ways-up u v e =
      let l = W.from u v e in
      let f : sink G u ≡ false = not-true (sink G u) (λ t. (sink-tells W).sound u l t v e) in
      let h : ways G u ≡ sum (λ w. pick (G.edge u w) (ways G w) 0) G.n
      = ways-step u l ∙ ap (λ (b : Bool). pick b 1 (sum (λ w. pick (G.edge u w) (ways G w) 0) G.n)) f in
      omega (arith, rw (ap (λ (b : Bool). pick b (ways G v) 0) e) at (sum_term (λ w. pick (G.edge u w) (ways G w) 0) v G.n (W.to u v e)))

  climb : (k v : ℕ) → v < G.n → (ranked W A).rank v < k → ways G v ≤ path_count G
  unfolding path_count
  climb zero v l h = absurd (omega arith)
  climb (suc k) v l h = go (source-or W v) (λ u e. climb k u (W.from u v e) (omega (arith, (ranked W A).up u v e)))
    where
      go : Source G v ⊎ ((u : ℕ) × Edge G u v) → ((u : ℕ) → Edge G u v → ways G u ≤ path_count G) → ways G v ≤ path_count G
      go (inl s) ih =
          rw (ap (λ (b : Bool). pick b (ways G v) 0) ((source-tells W).complete v l s)) at (sum_term (λ v. pick (source G v) (ways G v) 0) v G.n l)
      go (inr r) ih = omega (arith, ways-up r.0 v r.1, ih r.0 r.1)

  -- THEOREM. So where the number of complete paths is within a limit, every number of the table is.
  pub ways-below : (v : ℕ) → v < G.n → ways G v ≤ path_count G
  ways-below v l = climb (suc ((ranked W A).rank v)) v l (omega arith)
