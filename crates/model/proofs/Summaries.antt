-- The sums that end at a vertex and those that start there: they follow from those of its neighbours, each is unique, and the largest that
-- starts anywhere is that of the longest complete path.
use mathlib.Core.Path.{◌≡◌}
use mathlib.Core.List.{List, [], ◌∷◌, ◌++◌}
use mathlib.Core.Logic.{◌⊎◌, inl, inr}
use Prim.Native.Nat.{ℕ, ◌+◌, ◌≤◌, ◌<◌}
use native.Mathlib.Omega.{arith}
use Rattle.model.specs.Places.{along}
use Rattle.model.specs.Graph.{Graph, Edge, Source, Sink, WellFormed}
use Rattle.model.specs.Path.{ToSink, end, link, Complete, complete, Greatest}
use Rattle.model.specs.Summary.{FromSource, begin, onward, EndingAt, StartingAt, Summary}
use Rattle.model.proofs.Paths.{source-or, sink-or, head-known}
use Rattle.model.proofs.Joined.{along-append, along-last, path-own, joined}

-- the vertex's own weight counts
pub ending-own : {G : Graph} {f : ℕ → ℕ} {v x : ℕ} → EndingAt G f v x → f v ≤ x
ending-own {f = f} a = omega (arith, a.attained, path-own f a.from_source)

pub starting-own : {G : Graph} {f : ℕ → ℕ} {v x : ℕ} → StartingAt G f v x → f v ≤ x
unfolding along
starting-own b = omega (arith, b.attained)

-- an edge adds the weight of its other end
pub ending-edge : {G : Graph} {f : ℕ → ℕ} {u v x y : ℕ} → Edge G u v → EndingAt G f u x → EndingAt G f v y → x + f v ≤ y
ending-edge {f = f} {v = v} e a b =
    omega (arith, along-last f a.path v, a.attained, b.unexceeded (a.path ++ (v ∷ [])) (onward a.from_source e))

pub starting-edge : {G : Graph} {f : ℕ → ℕ} {u v x y : ℕ} → Edge G u v → StartingAt G f u x → StartingAt G f v y → f u + y ≤ x
unfolding along
starting-edge {v = v} e a b = omega (arith, b.attained, a.unexceeded (v ∷ b.rest) (link e b.to_sink))

-- THEOREM. Each is unique.
pub ending_unique : {G : Graph} {f : ℕ → ℕ} {v x y : ℕ} → EndingAt G f v x → EndingAt G f v y → x ≡ y
ending_unique a b =
    omega (arith, a.attained, b.attained, a.unexceeded b.path b.from_source, b.unexceeded a.path a.from_source)

pub starting_unique : {G : Graph} {f : ℕ → ℕ} {v x y : ℕ} → StartingAt G f v x → StartingAt G f v y → x ≡ y
starting_unique a b =
    omega (arith, a.attained, b.attained, a.unexceeded b.rest b.to_sink, b.unexceeded a.rest a.to_sink)

-- THEOREM. Two summaries of one graph and weights agree at every vertex: one that was updated is one made afresh.
pub summary_unique : {G : Graph} {f e s e' s' : ℕ → ℕ} → Summary G f e s → Summary G f e' s' → (v : ℕ) → v < G.n → (e v ≡ e' v) × (s v ≡ s' v)
summary_unique a b v l = (ending_unique (a.ending v l) (b.ending v l), starting_unique (a.starting v l) (b.starting v l))

-- ---- from the neighbours

module _ {G : Graph} (W : WellFormed G) (f s : ℕ → ℕ) (v : ℕ) (l : v < G.n) (own : f v ≤ s v) where
  -- no predecessor's sum, with the weight of v, exceeds that of v; and v's is its own weight alone, or with some predecessor's sum
  module _ (before : (u : ℕ) → Edge G u v → EndingAt G f u (s u)) (most : (u : ℕ) → Edge G u v → s u + f v ≤ s v)
      (is : (s v ≡ f v) ⊎ ((u : ℕ) × Edge G u v × (s v ≡ s u + f v))) where
    pub ending-step : EndingAt G f v (s v)
    unfolding along
    ending-step = go is (source-or W v)
      where
        within : (p : List ℕ) → FromSource G p v → along f p ≤ s v
        within p (begin m d) = omega arith
        within p (onward {u = u} {p = q} c e) = omega (arith, along-last f q v, (before u e).unexceeded q c, most u e)

        by : (u : ℕ) → Edge G u v → s v ≡ s u + f v → EndingAt G f v (s v)
        by u e q =
            let a = before u e in
            record { path = a.path ++ (v ∷ []); from_source = onward a.from_source e; attained = omega (arith, along-last f a.path v, a.attained); unexceeded = within }

        go : (s v ≡ f v) ⊎ ((u : ℕ) × Edge G u v × (s v ≡ s u + f v)) → Source G v ⊎ ((u : ℕ) × Edge G u v) → EndingAt G f v (s v)
        go (inr r) x = by r.0 r.1 r.2
        go (inl q) (inl d) = record { path = v ∷ []; from_source = begin l d; attained = omega arith; unexceeded = within }
        go (inl q) (inr r) = by r.0 r.1 (omega (arith, most r.0 r.1))

  -- so too of the successors
  module _ (after : (u : ℕ) → Edge G v u → StartingAt G f u (s u)) (most : (u : ℕ) → Edge G v u → f v + s u ≤ s v)
      (is : (s v ≡ f v) ⊎ ((u : ℕ) × Edge G v u × (s v ≡ f v + s u))) where
    pub starting-step : StartingAt G f v (s v)
    unfolding along
    starting-step = go is (sink-or W v)
      where
        within : (p : List ℕ) → ToSink G (v ∷ p) → along f (v ∷ p) ≤ s v
        within [] (end m d) = omega arith
        within (u ∷ p) (link e c) = omega (arith, (after u e).unexceeded p c, most u e)

        by : (u : ℕ) → Edge G v u → s v ≡ f v + s u → StartingAt G f v (s v)
        by u e q =
            let a = after u e in record { rest = u ∷ a.rest; to_sink = link e a.to_sink; attained = omega (arith, a.attained); unexceeded = within }

        go : (s v ≡ f v) ⊎ ((u : ℕ) × Edge G v u × (s v ≡ f v + s u)) → Sink G v ⊎ ((u : ℕ) × Edge G v u) → StartingAt G f v (s v)
        go (inr r) x = by r.0 r.1 r.2
        go (inl q) (inl d) = record { rest = []; to_sink = end l d; attained = omega arith; unexceeded = within }
        go (inl q) (inr r) = by r.0 r.1 (omega (arith, most r.0 r.1))

-- ---- the longest complete path

-- THEOREM. The largest sum that starts at any vertex is the largest along a complete path: a path's part weighs no more than the path. So no
-- source has to be looked for.
pub starting_greatest : {G : Graph} → WellFormed G → {f e s : ℕ → ℕ} → Summary G f e s → (x : ℕ) → ((u : ℕ) → u < G.n → s u ≤ x)
    → (x ≡ 0) ⊎ ((u : ℕ) × (u < G.n) × (x ≡ s u)) → Greatest G (along f) x
unfolding along
starting_greatest {G} W {f} {e} {s} S x most is = go is
  where
    within : (p : List ℕ) → Complete G p → along f p ≤ x
    within p (complete {u = u} {p = q} d t) = let l = head-known W t in omega (arith, (S.starting u l).unexceeded q t, most u l)

    by : (u : ℕ) → u < G.n → x ≤ s u → Greatest G (along f) x
    by u l h =
        let a = S.ending u l in
        let b = S.starting u l in
        let c = joined a.from_source b.to_sink in
        record {
          path = a.path ++ b.rest;
          is_complete = c;
          attained = omega (arith, b.attained, path-own f a.from_source, along-append f a.path b.rest, within (a.path ++ b.rest) c);
          unexceeded = within;
        }

    go : (x ≡ 0) ⊎ ((u : ℕ) × (u < G.n) × (x ≡ s u)) → Greatest G (along f) x
    go (inl z) = by 0 W.some (omega arith)
    go (inr r) = by r.0 r.1 (omega (arith, r.2))
