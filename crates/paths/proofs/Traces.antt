-- A trace from the head is the path: it keeps the largest sum at each step, and each step goes to the least vertex that does.
use mathlib.Core.Path.{◌≡◌, refl, sym, ap, ◌∙◌}
use mathlib.Core.List.{List, [], ◌∷◌}
use mathlib.Core.Logic.{◌⊎◌, inl, inr}
use Prim.Native.Nat.{ℕ, ◌+◌, ◌≤◌, ◌<◌}
use native.Mathlib.Omega.{arith}
use native.Mathlib.Decide.{ℕ_discrete}
use Rattle.model.specs.Places.{along}
use Rattle.model.specs.Graph.{Graph, Edge, WellFormed}
use Rattle.model.specs.Path.{ToSink, end, link, Complete, complete, Before, here, later, LeastLongest}
use Rattle.model.proofs.Bools.{le-or-lt}
use Rattle.model.proofs.Paths.{head-known}
use Rattle.paths.specs.Ahead.{sum_at, Ahead, Head}
use Rattle.paths.specs.Trace.{Trace, stop, on}

module _ {G : Graph} (W : WellFormed G) (f s : ℕ → ℕ) (L : (v : ℕ) → v < G.n → Ahead G f v (s v)) where
  pub trace-to-sink : {u : ℕ} {p : List ℕ} → Trace G f s u p → ToSink G (u ∷ p)
  trace-to-sink (stop l t) = end l t
  trace-to-sink (on e k m t) = link e (trace-to-sink t)

  -- nothing lies ahead of a sink
  sink-ahead : (u : ℕ) (p : List ℕ) → ToSink G (u ∷ p) → ((v : ℕ) → Edge G u v → ⊥) → along f p ≡ 0
  unfolding along
  sink-ahead u [] t n = refl
  sink-ahead u (v ∷ p) (link e t) n = absurd (n v e)

  pub trace-sum : {u : ℕ} {p : List ℕ} → Trace G f s u p → along f p ≡ s u
  unfolding along
  trace-sum {u} (stop l t) = let a = L u l in sym (sink-ahead u a.path a.to_sink t) ∙ a.attained
  trace-sum (on {v = v} e k m t) = omega (arith, trace-sum t)

  pub trace-least : {u : ℕ} {p : List ℕ} → Trace G f s u p → (q : List ℕ) → ToSink G (u ∷ q) → along f q ≡ s u
      → (q ≡ p) ⊎ Before p q
  unfolding along
  trace-least (stop l t) [] c h = inl refl
  trace-least (stop l t) (x ∷ q) (link e c) h = absurd (t x e)
  trace-least (on {v = v} e k m t) [] (end l n) h = absurd (n v e)
  trace-least {u} (on {v = v} {p = p} e k m t) (x ∷ q) (link d c) h = go (ℕ_discrete x v) (λ r i. trace-least t r i)
    where
      -- x keeps the sum too
      ahead : along f q ≤ s x
      ahead = (L x (W.to u x d)).unexceeded q c

      kept : f x + s x ≡ s u
      kept =
          let b = L x (W.to u x d) in
          omega (arith, ahead, b.attained, (L u (W.from u x d)).unexceeded (x ∷ b.path) (link d b.to_sink))

      go : Dec (x ≡ v) → ((r : List ℕ) → ToSink G (v ∷ r) → along f r ≡ s v → (r ≡ p) ⊎ Before p r) → ((x ∷ q) ≡ (v ∷ p)) ⊎ Before (v ∷ p) (x ∷ q)
      go (no z) ih = inr (here {u = v} {v = x} (omega (arith, m x d kept)))
      go (yes z) ih = let same : along f q ≡ s x = omega (arith, kept) in front (ih q (rw z at c) (rw z at same))
        where
          front : (q ≡ p) ⊎ Before p q → ((x ∷ q) ≡ (v ∷ p)) ⊎ Before (v ∷ p) (x ∷ q)
          front (inl y) = inl (λ i. z i ∷ y i)
          front (inr y) = inr (rw z (later y))

  -- THEOREM. From the head, the trace is the least of the longest paths.
  pub trace-path : (h : ℕ) (p : List ℕ) → Head G (sum_at f s) h → Trace G f s h p → LeastLongest G f (h ∷ p)
  unfolding along
  trace-path h p H t = record { is_complete = complete H.is_source (trace-to-sink t); longest = longest; least = least }
    where
      longest : (q : List ℕ) → Complete G q → along f q ≤ along f (h ∷ p)
      longest q (complete {u = u} {p = r} n c) =
          let l = head-known W c in omega (arith, trace-sum t, H.most u l n, (L u l).unexceeded r c)

      least : (q : List ℕ) → Complete G q → along f q ≡ along f (h ∷ p) → (q ≡ h ∷ p) ⊎ Before (h ∷ p) q
      least q (complete {u = u} {p = r} n c) e = go (ℕ_discrete u h)
        where
          go : Dec (u ≡ h) → ((u ∷ r) ≡ (h ∷ p)) ⊎ Before (h ∷ p) (u ∷ r)
          go (yes z) = front (trace-least t r (rw z at c) (omega (arith, trace-sum t, ap f z)))
            where
              front : (r ≡ p) ⊎ Before p r → ((u ∷ r) ≡ (h ∷ p)) ⊎ Before (h ∷ p) (u ∷ r)
              front (inl y) = inl (λ i. z i ∷ y i)
              front (inr y) = inr (rw z (later y))
          go (no z) = inr (here (after (le-or-lt h u)))
            where
              after : (h ≤ u) ⊎ (u < h) → h < u
              after (inl l) = omega arith
              after (inr l) = absurd (omega (arith, trace-sum t, H.first u l n, (L u (head-known W c)).unexceeded r c))
