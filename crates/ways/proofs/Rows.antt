-- The edges of a vertex go to its successors in ascending order: a sum over the successors is one along the edges, up to any of them too.
use mathlib.Core.Path.{◌≡◌, sym, ◌∙◌}
use mathlib.Core.List.{List}
use Prim.Native.Nat.{ℕ, suc, ◌+◌, ◌<◌}
use native.Mathlib.Omega.{arith}
use native.Mathlib.Decide.{ℕ_discrete}
use lib.Dec.{eqb}
use lib.ListN.{get_or}
use borrow.Author.Tests.{eq-eqb, ne_eqb}
use Rattle.model.specs.Places.{pick, sum}
use Rattle.model.specs.Graph.{sink}
use Rattle.model.proofs.Bools.{not-true}
use Rattle.model.proofs.Paths.{sink-tells}
use Rattle.graph.specs.Model.{as_model, from}
use Rattle.graph.specs.declared.Graph.{Graph}
use Rattle.paths.specs.Ahead.{Weighed}
use Rattle.paths.proofs.Sums.{row-edge}
use Rattle.summary.specs.Row.{many, nth}
use Rattle.summary.proofs.Along.{well_formed, nth-joins, nth_of, row}
use Rattle.ways.proofs.Ascending.{sum-places, sum-part}

module _ {g : Graph} {e st o : List ℕ} {n : ℕ} {w : List ℕ} (T : Weighed g e st o n w) (u : ℕ) (l : u < g.n) where
  nth-rises : (k : ℕ) → suc k < many st u → nth e st u k < nth e st u (suc k)
  unfolding from
  nth-rises k h =
      let s = (row T u l).span in
      let i = get_or st u 0 + k in
      let a = row-edge T.rows u i l (omega arith) (omega (arith, s.ascends)) in
      let b = row-edge T.rows u (suc i) l (omega arith) (omega (arith, s.ascends)) in
      let c : get_or g.edge i 0 < get_or g.edge (suc i) 0 = T.rows.accepted.ascending i b.0 in
      let z : get_or st u 0 + suc k ≡ suc i = omega arith in
      rw (T.rows.edge, z) (omega (arith, a.1, b.1, c))

  module _ (f : ℕ → ℕ) where
    abbrev over : ℕ → ℕ
    over v = pick ((as_model g).edge u v) (f v) 0

    -- up to the k-th
    pub row-part : (k : ℕ) → k < many st u → sum over (nth e st u k) ≡ sum (λ j. f (nth e st u j)) k
    row-part = sum-part f ((as_model g).edge u) (nth e st u) (many st u) nth-rises (λ k. nth-joins T u k l) (nth_of T u)

    pub row-whole : sum over (as_model g).n ≡ sum (λ j. f (nth e st u j)) (many st u)
    row-whole =
        sum-places f ((as_model g).edge u) (nth e st u) (many st u) nth-rises (λ k. nth-joins T u k l) (nth_of T u) (many st u) (as_model g).n (omega arith)
        (λ j x. (well_formed T).to u (nth e st u j) (nth-joins T u j l x)) (λ j x y. absurd (omega arith))

  -- a sink has no edges
  pub row-sink : sink (as_model g) u ≡ eqb (many st u) 0
  unfolding as_model
  row-sink = go (ℕ_discrete (many st u) 0)
    where
      go : Dec (many st u ≡ 0) → sink (as_model g) u ≡ eqb (many st u) 0
      go (yes z) = (sink-tells (well_formed T)).complete u l (λ v d. omega (arith, (nth_of T u v d).1)) ∙ sym (eq-eqb (many st u) 0 z)
      go (no z) =
          not-true (sink (as_model g) u) (λ t. (sink-tells (well_formed T)).sound u l t (nth e st u 0) (nth-joins T u 0 l (omega arith)))
          ∙ sym (ne_eqb (many st u) 0 z)
