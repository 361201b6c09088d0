-- Why one pass along the order, from its last vertex to its first, finds the numbers. The successors of a vertex stand at later places, where the
-- numbers are done, and no later store changes them. A sum that is cut at each step is the whole sum, cut.
use mathlib.Core.Path.{◌≡◌, refl, sym, ap, ◌∙◌}
use mathlib.Core.Logic.{⊎_elim}
use mathlib.Core.Bool.{Bool, true, false}
use mathlib.Core.List.{List, []}
use Prim.Native.Nat.{ℕ, ◌+◌, ◌≤◌, ◌<◌, min}
use native.Mathlib.Omega.{arith}
use native.Mathlib.Decide.{ℕ_discrete}
use lib.Dec.{eqb}
use lib.ListN.{get_or, length, set, replicate, length-set, length-replicate}
use lib.Seq.{get_or-set_same, get_or-set_other}
use Rattle.model.specs.Places.{pick, sum}
use Rattle.model.specs.Graph.{source}
use Rattle.model.specs.Graph as model
use Rattle.model.specs.PathCount.{ways, path_count}
use Rattle.model.proofs.Bools.{le-or-lt}
use Rattle.model.proofs.Tables.{zeros}
use Rattle.model.proofs.Turns.{sum-next}
use Rattle.model.proofs.Ways.{ways-step, min-sum}
use Rattle.graph.specs.Model.{as_model}
use Rattle.graph.specs.declared.Graph.{Graph}
use Rattle.paths.specs.Ahead.{Weighed}
use Rattle.summary.specs.Row.{many, nth}
use Rattle.summary.proofs.Along.{well_formed, few, vertex, place, place-below, place_at, vertex-at, rises}
use Rattle.ways.specs.Counts.{Counts, onward_by, whole_by, from_source_of}
use Rattle.ways.proofs.Rows.{row-whole, row-sink}

pub pick_small : (b : Bool) (x : ℕ) → pick b x 0 ≤ x
pick_small true x = omega arith
pick_small false x = omega arith

pub cut-more : (f : ℕ → ℕ) (k s x : ℕ) → s ≡ min 4097 (sum f k) → x ≡ min (s + f k) 4097 → x ≡ min 4097 (sum f (k + 1))
cut-more f k s x a b = omega (arith, sum-next f k)

module _ {g : Graph} {e st o : List ℕ} {n : ℕ} (T : Weighed g e st o n []) where
  pub record Counting (t : List ℕ) (j : ℕ) : Type 0 where
    pub size : length t ≡ 128
    pub number : (v : ℕ) → v < g.n → j ≤ place T v → get_or t v 0 ≡ min 4097 (ways (as_model g) v)
    pub small : (v : ℕ) → get_or t v 0 ≤ 4097
    pub past : (v : ℕ) → g.n ≤ v → get_or t v 0 ≡ 0

  pub counting_none : Counting (replicate 128 0) n
  counting_none = record {
    size = length-replicate {A = ℕ} 128 0;
    number = λ v l h. absurd (omega (arith, place-below T v l));
    small = λ v. omega (arith, zeros 128 v);
    past = λ v l. zeros 128 v;
  }

  module _ (t : List ℕ) (j k : ℕ) (next : j ≡ k + 1) (l : j ≤ n) (C : Counting t j) where
    abbrev u : ℕ
    u = get_or o k 0

    known : u < g.n
    known = vertex T k (omega arith)

    module _ (x : ℕ) (is : x ≡ onward_by e st t u) where
      own : x ≡ min 4097 (ways (as_model g) u)
      unfolding as_model
      own =
          let W = well_formed T in
          is
          ∙ go (eqb (many st u) 0)
          ∙ ap (λ (b : Bool). min 4097 (pick b 1 (sum (λ v. pick ((as_model g).edge u v) (ways (as_model g) v) 0) (as_model g).n))) (sym (row-sink T u known))
          ∙ ap (λ (y : ℕ). min 4097 y) (sym (ways-step W T.rows.accepted.acyclic u known))
        where
          each : (v : ℕ) → (b : Bool) → (as_model g).edge u v ≡ b → min 4097 (pick b (get_or t v 0) 0) ≡ min 4097 (pick b (ways (as_model g) v) 0)
          each v true d = omega (arith, C.number v ((well_formed T).to u v d) (omega (arith, rises T u v d, place_at T k (omega arith))))
          each v false d = refl

          go : (b : Bool) → pick b 1 (min 4097 (sum (λ i. get_or t (nth e st u i) 0) (many st u)))
              ≡ min 4097 (pick b 1 (sum (λ v. pick ((as_model g).edge u v) (ways (as_model g) v) 0) (as_model g).n))
          go true = omega arith
          go false =
              ap (λ (y : ℕ). min 4097 y) (sym (row-whole T u known (λ v. get_or t v 0)))
              ∙ min-sum 4097 (λ v. pick ((as_model g).edge u v) (get_or t v 0) 0) (λ v. pick ((as_model g).edge u v) (ways (as_model g) v) 0) (as_model g).n
              (λ v h. each v ((as_model g).edge u v) refl)

      here : get_or (set t u x) u 0 ≡ x
      here = get_or-set_same t u x 0 (omega (arith, C.size, known, few T))

      there : (v : ℕ) → (v ≡ u → ⊥) → get_or (set t u x) v 0 ≡ get_or t v 0
      there v d = get_or-set_other t u v x 0 d

      pub counting_more : Counting (set t u x) k
      counting_more = record {
        size = length-set t u x ∙ C.size;
        number = λ v m h. number v m h (ℕ_discrete v u);
        small = λ v. small v (ℕ_discrete v u);
        past = λ v h. there v (λ q. omega (arith, known)) ∙ C.past v h;
      }
        where
          number : (v : ℕ) → v < g.n → k ≤ place T v → Dec (v ≡ u) → get_or (set t u x) v 0 ≡ min 4097 (ways (as_model g) v)
          number v m h (yes q) = rw q (here ∙ own)
          number v m h (no q) = there v q ∙ C.number v m (later (ℕ_discrete (place T v) k))
            where
              later : Dec (place T v ≡ k) → j ≤ place T v
              later (yes z) = absurd (q (sym (vertex-at T v m) ∙ ap (λ (i : ℕ). get_or o i 0) z))
              later (no z) = omega arith

          small : (v : ℕ) → Dec (v ≡ u) → get_or (set t u x) v 0 ≤ 4097
          small v (yes q) = rw q (omega (arith, here, own))
          small v (no q) = omega (arith, there v q, C.small v)

  pub counting_done : (t : List ℕ) → Counting t 0 → Counts (as_model g) t
  unfolding as_model
  counting_done t C = record { size = C.size; number = λ v l. C.number v l (omega arith); past = C.past }

pub counts-few : {G : model.Graph} {t : List ℕ} → Counts G t → (v : ℕ) → get_or t v 0 ≤ 4097
counts-few {G} C v = ⊎_elim (λ (h : G.n ≤ v). omega (arith, C.past v h)) (λ h. omega (arith, C.number v h)) (le-or-lt G.n v)

-- THEOREM. The sources' numbers, added up and cut, are the number of complete paths, cut.
pub whole_is : {G : model.Graph} (w : List ℕ) {t : List ℕ} → Counts G t → ((v : ℕ) → v < G.n → eqb (get_or w v 0) 0 ≡ source G v)
    → whole_by w t G.n ≡ min 4097 (path_count G)
unfolding path_count
whole_is {G} w {t} C sources =
    min-sum 4097 (from_source_of w t) (λ v. pick (source G v) (ways G v) 0) G.n
    (λ v l. ap (λ (b : Bool). min 4097 (pick b (get_or t v 0) 0)) (sources v l) ∙ each v l (source G v))
  where
    each : (v : ℕ) → v < G.n → (b : Bool) → min 4097 (pick b (get_or t v 0) 0) ≡ min 4097 (pick b (ways G v) 0)
    each v l true = omega (arith, C.number v l)
    each v l false = refl
