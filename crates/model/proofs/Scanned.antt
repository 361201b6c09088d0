-- The longest complete path with the weight of v taken as 0, from the summary.
--
-- A complete path lies to the rank of v in one of three ways (`cut`): it ends at or below it, begins above it, or leads over it by an edge
-- from a to b. Up to a it is at most the best path that ends at a, and from b on at most the best that starts at b. Neither of these two
-- meets v where a is another vertex, since ranks rise along a path: so joined they are a complete path, with the same sum, that
-- avoids v. Where a is v, the path goes through v. Parts of paths may be compared without harm, since a path's part weighs no more than the
-- path: so it does not matter which vertices are sources and sinks.
--
--   Scanned G f e s rank v x    x is one of the sums that are compared: the best through v; over an edge from another vertex, not above v, to one
--                               above v; up to another vertex, not above v; or from a vertex above v on. e and s are the summary
--   LargestOf C x               x is the largest that has C
use mathlib.Core.Path.{◌≡◌}
use mathlib.Core.List.{List, ◌∷◌, ◌++◌}
use mathlib.Core.Logic.{inr}
use Prim.Native.Nat.{ℕ, ◌+◌, ◌-◌, ◌≤◌, ◌<◌}
use native.Mathlib.Omega.{arith}
use native.Mathlib.Decide.{ℕ_discrete}
use Rattle.model.specs.Places.{along}
use Rattle.model.specs.Graph.{Graph, Edge, WellFormed}
use Rattle.model.specs.Cycle.{Ranked}
use Rattle.model.specs.Path.{ToSink, link, Complete, Greatest}
use Rattle.model.specs.Summary.{FromSource, Summary}
use Rattle.model.proofs.Paths.{head-known, to_sink}
use Rattle.model.proofs.Joined.{along-append, path-own, last-known, joined, Cut, ends, begins, leads, cut, without, other, above, below, until, since}
use Rattle.model.proofs.Summaries.{starting-own}

pub data Scanned (G : Graph) (f e s rank : ℕ → ℕ) (v : ℕ) : ℕ → Type 0 where
  via : Scanned G f e s rank v (e v + s v - f v - f v)
  past : {a b : ℕ} → Edge G a b → (a ≡ v → ⊥) → rank a ≤ rank v → rank v < rank b → Scanned G f e s rank v (e a + s b)
  up-to : {u : ℕ} → u < G.n → (u ≡ v → ⊥) → rank u ≤ rank v → Scanned G f e s rank v (e u)
  from : {u : ℕ} → u < G.n → rank v < rank u → Scanned G f e s rank v (s u)

pub record LargestOf (C : ℕ → Type 0) (x : ℕ) : Type 0 where
  pub is : C x
  pub most : (y : ℕ) → C y → y ≤ x

module _ {G : Graph} (W : WellFormed G) (R : Ranked G) (f : ℕ → ℕ) {e s : ℕ → ℕ} (S : Summary G f e s) (v : ℕ) (l : v < G.n) where
  -- each of the sums is at most that of some complete path
  abbrev Reached : ℕ → Type 0
  Reached x = (p : List ℕ) × Complete G p × (x ≤ along (without f v) p)

  by-via : Reached (e v + s v - f v - f v)
  by-via =
      let a = S.ending v l in
      let b = S.starting v l in (
        a.path ++ b.rest,
        joined a.from_source b.to_sink,
        omega (arith, along-append (without f v) a.path b.rest, until R f v a.from_source, since R f v b.to_sink, a.attained, b.attained),
      )

  by-past : (a b : ℕ) → Edge G a b → (a ≡ v → ⊥) → R.rank a ≤ R.rank v → R.rank v < R.rank b → Reached (e a + s b)
  by-past a b d x h k =
      let p = S.ending a (W.from a b d) in
      let q = S.starting b (W.to a b d) in (
        p.path ++ (b ∷ q.rest),
        joined p.from_source (link d q.to_sink),
        omega (
          arith,
          along-append (without f v) p.path (b ∷ q.rest),
          below R f v p.from_source x h,
          above R f v q.to_sink (other R f v b (inr k)) (omega arith),
          p.attained,
          q.attained,
        ),
      )

  by-up-to : (u : ℕ) → u < G.n → (u ≡ v → ⊥) → R.rank u ≤ R.rank v → Reached (e u)
  by-up-to u m x h =
      let a = S.ending u m in
      let t = to_sink W R u m in (
        a.path ++ t.0,
        joined a.from_source t.1,
        omega (arith, along-append (without f v) a.path t.0, below R f v a.from_source x h, a.attained),
      )

  by-from : (u : ℕ) → u < G.n → R.rank v < R.rank u → Reached (s u)
  unfolding along
  by-from u m k =
      let a = S.ending u m in
      let b = S.starting u m in (
        a.path ++ b.rest,
        joined a.from_source b.to_sink,
        omega (
          arith,
          along-append (without f v) a.path b.rest,
          path-own (without f v) a.from_source,
          above R f v b.to_sink (other R f v u (inr k)) (omega arith),
          b.attained,
        ),
      )

  reached : {x : ℕ} → Scanned G f e s R.rank v x → Reached x
  reached via = by-via
  reached (past {a = a} {b = b} d x h k) = by-past a b d x h k
  reached (up-to {u = u} m x h) = by-up-to u m x h
  reached (from {u = u} m k) = by-from u m k

  -- what none of the sums exceeds, no complete path exceeds
  within : (x : ℕ) → ((y : ℕ) → Scanned G f e s R.rank v y → y ≤ x) → (p : List ℕ) → Complete G p → along (without f v) p ≤ x
  unfolding along
  within x most p c = go p (cut R.rank (R.rank v) W c)
    where
      it : e v + s v - f v - f v ≤ x
      it = most _ via

      to_end : (p : List ℕ) (t : ℕ) → FromSource G p t → R.rank t ≤ R.rank v → Dec (t ≡ v) → along (without f v) p ≤ x
      to_end p t c h (yes q) =
          let k : FromSource G p v = rw q at c in omega (arith, it, until R f v k, (S.ending v l).unexceeded p k, starting-own (S.starting v l))
      to_end p t c h (no q) =
          let m = last-known W c in omega (arith, below R f v c q h, (S.ending t m).unexceeded p c, most _ (up-to m q h))

      over-edge : (p q : List ℕ) (a b : ℕ) → FromSource G p a → Edge G a b → ToSink G (b ∷ q) → R.rank a ≤ R.rank v → R.rank v < R.rank b → Dec (a ≡ v)
          → along (without f v) (p ++ (b ∷ q)) ≤ x
      over-edge p q a b c d t h k (yes z) =
          let j : FromSource G p v = rw z at c in
          let i : Edge G v b = rw z at d in
          omega (
            arith,
            it,
            along-append (without f v) p (b ∷ q),
            until R f v j,
            (S.ending v l).unexceeded p j,
            above R f v t (other R f v b (inr k)) (omega arith),
            (S.starting v l).unexceeded (b ∷ q) (link i t),
          )
      over-edge p q a b c d t h k (no z) =
          omega (
            arith,
            along-append (without f v) p (b ∷ q),
            below R f v c z h,
            (S.ending a (W.from a b d)).unexceeded p c,
            above R f v t (other R f v b (inr k)) (omega arith),
            (S.starting b (W.to a b d)).unexceeded q t,
            most _ (past d z h k),
          )

      go : (p : List ℕ) → Cut G R.rank (R.rank v) p → along (without f v) p ≤ x
      go p (ends {t = t} c h) = to_end p t c h (ℕ_discrete t v)
      go p (begins {u = u} {q = q} t k) =
          let m = head-known W t in
          omega (arith, above R f v t (other R f v u (inr k)) (omega arith), (S.starting u m).unexceeded q t, most _ (from m k))
      go p (leads {p = i} {q = q} {a = a} {b = b} c d t h k) = over-edge i q a b c d t h k (ℕ_discrete a v)

  -- THEOREM. The largest of these sums is the largest along a complete path, with the weight of v taken as 0.
  pub scanned_greatest : {x : ℕ} → LargestOf (Scanned G f e s R.rank v) x → Greatest G (along (without f v)) x
  scanned_greatest {x} L =
      let a = reached L.is in
      record { path = a.0; is_complete = a.1; attained = omega (arith, a.2, within x L.most a.0 a.1); unexceeded = within x L.most }
