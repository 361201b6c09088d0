-- Why one pass along the order, from its last vertex to its first, finds the sums that start at the marked vertices. The successors of a vertex
-- stand at later places, where the sums are done, and no later store changes them.
use mathlib.Core.Path.{◌≡◌, sym, ap, ◌∙◌}
use mathlib.Core.Bool.{Bool, true, false}
use mathlib.Core.List.{List}
use mathlib.Core.Logic.{◌⊎◌, inl, inr}
use Prim.Native.Nat.{ℕ, ◌+◌, ◌≤◌, ◌<◌}
use native.Mathlib.Omega.{arith}
use native.Mathlib.Decide.{ℕ_discrete}
use lib.ListN.{get_or, length, set, length-set}
use lib.Seq.{get_or-set_same, get_or-set_other}
use Rattle.model.specs.Places.{pick}
use Rattle.model.specs.Graph.{Edge}
use Rattle.model.specs.Summary.{StartingAt}
use Rattle.model.proofs.Bools.{cases}
use Rattle.model.proofs.Sums.{largest-most, largest-is}
use Rattle.model.proofs.Summaries.{starting-step}
use Rattle.graph.specs.Model.{as_model}
use Rattle.graph.specs.declared.Graph.{Graph}
use Rattle.paths.specs.Ahead.{weigh, Weighed}
use Rattle.summary.specs.Row.{many, nth, most_over}
use Rattle.summary.specs.Tables.{Starts, StartsBut}
use Rattle.summary.proofs.Along.{well_formed, few, vertex, place, place-below, place_at, vertex-at, nth-joins, nth_of, rises, starting-small}

module _ {g : Graph} {e st o : List ℕ} {n : ℕ} {w : List ℕ} (T : Weighed g e st o n w) (t : List Bool) where
  pub record Backward (s : List ℕ) (j : ℕ) : Type 0 where
    pub size : length s ≡ 128
    pub done : (v : ℕ) → v < g.n → j ≤ place T v → StartingAt (as_model g) (weigh w) v (get_or s v 0)
    pub kept : (v : ℕ) → v < g.n → get_or t v false ≡ false → StartingAt (as_model g) (weigh w) v (get_or s v 0)
    pub past : (v : ℕ) → g.n ≤ v → get_or s v 0 ≡ 0

  pub backward_none : (s : List ℕ) → StartsBut (as_model g) (weigh w) t s → Backward s n
  unfolding as_model
  backward_none s K = record { size = K.size; done = λ v l h. absurd (omega (arith, place-below T v l)); kept = K.kept; past = K.past }

  module _ (s : List ℕ) (j k : ℕ) (next : j ≡ k + 1) (l : j ≤ n) (B : Backward s j) where
    abbrev u : ℕ
    u = get_or o k 0

    below : k < n
    below = omega arith

    known : u < g.n
    known = vertex T k below

    after : (v : ℕ) → Edge (as_model g) u v → StartingAt (as_model g) (weigh w) v (get_or s v 0)
    unfolding as_model
    after v d = B.done v ((well_formed T).to u v d) (omega (arith, rises T u v d, place_at T k below))

    abbrev most : ℕ
    most = most_over e st s u (many st u)

    pub backward_fits : weigh w u + most < 18446744073709551616
    unfolding as_model
    backward_fits = go (largest-is (λ i. get_or s (nth e st u i) 0) (many st u))
      where
        go : (most ≡ 0) ⊎ ((i : ℕ) × (i < many st u) × (most ≡ get_or s (nth e st u i) 0)) → weigh w u + most < 18446744073709551616
        go (inl z) = omega (arith, T.light u known)
        go (inr r) = omega (arith, T.light u known, r.2, starting-small T (after (nth e st u r.0) (nth-joins T u r.0 known r.1)))

    module _ (x : ℕ) (is : x ≡ pick (get_or t u false) (weigh w u + most) (get_or s u 0)) where
      here : get_or (set s u x) u 0 ≡ x
      here = get_or-set_same s u x 0 (omega (arith, B.size, known, few T))

      there : (v : ℕ) → (v ≡ u → ⊥) → get_or (set s u x) v 0 ≡ get_or s v 0
      there v d = get_or-set_other s u v x 0 d

      apart : (v : ℕ) → Edge (as_model g) u v → v ≡ u → ⊥
      apart v d q = omega (arith, rises T u v d, ap (place T) q)

      -- the sum of u, from its successors'
      made : x ≡ weigh w u + most → StartingAt (as_model g) (weigh w) u (get_or (set s u x) u 0)
      unfolding as_model
      made q =
          starting-step (well_formed T) (weigh w) (λ v. get_or (set s u x) v 0) u known (omega (arith, here)) (λ v d. rw (there v (apart v d)) (after v d)) within
          (by (largest-is (λ i. get_or s (nth e st u i) 0) (many st u)))
        where
          within : (v : ℕ) → Edge (as_model g) u v → weigh w u + get_or (set s u x) v 0 ≤ get_or (set s u x) u 0
          within v d =
              let r = nth_of T u v d in
              omega (
                arith,
                here,
                there v (apart v d),
                ap (λ (y : ℕ). get_or s y 0) r.2,
                largest-most (λ i. get_or s (nth e st u i) 0) (many st u) r.0 r.1,
              )

          by : (most ≡ 0) ⊎ ((i : ℕ) × (i < many st u) × (most ≡ get_or s (nth e st u i) 0))
              → (get_or (set s u x) u 0 ≡ weigh w u) ⊎ ((v : ℕ) × Edge (as_model g) u v × (get_or (set s u x) u 0 ≡ weigh w u + get_or (set s u x) v 0))
          by (inl z) = inl (omega (arith, here))
          by (inr r) =
              let v = nth e st u r.0 in
              let d = nth-joins T u r.0 known r.1 in
              inr (v, d, omega (arith, here, r.2, there v (apart v d)))

      sum : StartingAt (as_model g) (weigh w) u (get_or (set s u x) u 0)
      unfolding as_model
      sum = go (cases (get_or t u false))
        where
          go : (get_or t u false ≡ true) ⊎ (get_or t u false ≡ false) → StartingAt (as_model g) (weigh w) u (get_or (set s u x) u 0)
          go (inr z) = let q : x ≡ get_or s u 0 = rw z at is in rw (here ∙ q) (B.kept u known z)
          go (inl z) = made (rw z at is)

      pub backward_more : Backward (set s u x) k
      backward_more = record {
        size = length-set s u x ∙ B.size;
        done = λ v m h. done v m h (ℕ_discrete v u);
        kept = λ v m z. kept v m z (ℕ_discrete v u);
        past = λ v h. there v (λ q. omega (arith, known)) ∙ B.past v h;
      }
        where
          done : (v : ℕ) → v < g.n → k ≤ place T v → Dec (v ≡ u) → StartingAt (as_model g) (weigh w) v (get_or (set s u x) v 0)
          done v m h (yes q) = rw q sum
          done v m h (no q) = rw (there v q) (B.done v m (later (ℕ_discrete (place T v) k)))
            where
              later : Dec (place T v ≡ k) → j ≤ place T v
              later (yes z) = absurd (q (sym (vertex-at T v m) ∙ ap (λ (i : ℕ). get_or o i 0) z))
              later (no z) = omega arith

          kept : (v : ℕ) → v < g.n → get_or t v false ≡ false → Dec (v ≡ u) → StartingAt (as_model g) (weigh w) v (get_or (set s u x) v 0)
          kept v m z (yes q) = rw q sum
          kept v m z (no q) = rw (there v q) (B.kept v m z)

  pub backward_done : (s : List ℕ) → Backward s 0 → Starts (as_model g) (weigh w) s
  unfolding as_model
  backward_done s B = record { size = B.size; starting = λ v l. B.done v l (omega arith); past = B.past }
