-- The largest sum and the least path that attains it as functions that compute, for small graphs: what lies ahead of a vertex is
-- the largest over its successors, looking at most N edges on.
--
--   ahead_of G f v      the largest sum ahead of v          greatest_of G f    the largest sum along a complete path
--   least_of G f        the least of the paths that attain it
use mathlib.Core.Path.{◌≡◌, refl, sym}
use mathlib.Core.Bool.{Bool, true, false, ◌&&◌}
use mathlib.Core.List.{List, [], ◌∷◌}
use mathlib.Core.Logic.{◌⊎◌, inl, inr}
use Prim.Native.Nat.{ℕ, zero, suc, ◌+◌, ◌≤◌, ◌<◌, zero-le}
use native.Mathlib.Omega.{arith}
use native.Mathlib.Decide.{ℕ_discrete}
use lib.Dec.{eqb, ltb}
use lib.ListN.{length}
use borrow.Author.Tests.{eq-eqb, eqb-true, lt-ltb, le-ltb}
use Rattle.model.specs.Places.{pick, first, largest, along}
use Rattle.model.specs.Graph.{Graph, Edge, Source, Sink, source, WellFormed}
use Rattle.model.specs.Cycle.{Acyclic}
use Rattle.model.specs.Path.{ToSink, end, link, Greatest, LeastLongest}
use Rattle.model.proofs.Places.{first-here, first_below}
use Rattle.model.proofs.Bools.{clash, le-or-lt, both, left-of, right_of}
use Rattle.model.proofs.Sums.{largest-most, largest-is}
use Rattle.model.proofs.Cycles.{ranked}
use Rattle.model.proofs.Paths.{to_sink, to-source, head-known, path-short, source-tells}
use Rattle.paths.specs.Ahead.{sum_at, Ahead, Head}
use Rattle.paths.specs.Trace.{Trace, stop, on}
use Rattle.paths.proofs.Complete.{head_greatest}
use Rattle.paths.proofs.Traces.{trace-path}

unfoldable pub ahead_within : Graph → (ℕ → ℕ) → ℕ → ℕ → ℕ
ahead_within G f zero v = 0
ahead_within G f (suc k) v = largest (λ u. pick (G.edge v u) (f u + ahead_within G f k u) 0) G.n

unfoldable pub ahead_of : Graph → (ℕ → ℕ) → ℕ → ℕ
ahead_of G f v = ahead_within G f G.n v

unfoldable pub greatest_of : Graph → (ℕ → ℕ) → ℕ
greatest_of G f = largest (λ v. pick (source G v) (sum_at f (ahead_of G f) v) 0) G.n

unfoldable pub head_of : Graph → (ℕ → ℕ) → ℕ
head_of G f = first (λ v. source G v && eqb (sum_at f (ahead_of G f) v) (greatest_of G f)) G.n

unfoldable pub next_of : Graph → (ℕ → ℕ) → ℕ → ℕ
next_of G f u = first (λ x. G.edge u x && eqb (sum_at f (ahead_of G f) x) (ahead_of G f u)) G.n

unfoldable pub steps_of : Graph → (ℕ → ℕ) → ℕ → ℕ → List ℕ
steps_of G f zero u = []
steps_of G f (suc k) u = pick (ltb (next_of G f u) G.n) (next_of G f u ∷ steps_of G f k (next_of G f u)) []

unfoldable pub least_of : Graph → (ℕ → ℕ) → List ℕ
least_of G f = head_of G f ∷ steps_of G f G.n (head_of G f)

picked : (b : Bool) (x : ℕ) → b ≡ true → pick b x 0 ≡ x
picked true x e = refl
picked false x e = absurd (clash e refl)

module _ {G : Graph} (W : WellFormed G) (A : Acyclic G) (f : ℕ → ℕ) where
  -- ---- what lies ahead

  within-covers : (k v : ℕ) (p : List ℕ) → ToSink G (v ∷ p) → length p ≤ k → along f p ≤ ahead_within G f k v
  unfolding along ahead_within
  within-covers k v [] t l = zero-le
  within-covers zero v (u ∷ p) t l = absurd (omega arith)
  within-covers (suc k) v (u ∷ p) (link e t) l =
      omega (
        arith,
        within-covers k u p t (omega arith),
        picked (G.edge v u) (f u + ahead_within G f k u) e,
        largest-most (λ u. pick (G.edge v u) (f u + ahead_within G f k u) 0) G.n u (W.to v u e),
      )

  within-attained : (k v : ℕ) → v < G.n → (p : List ℕ) × ToSink G (v ∷ p) × (ahead_within G f k v ≤ along f p)
  unfolding along ahead_within
  within-attained zero v l = let t = to_sink W (ranked W A) v l in (t.0, t.1, zero-le)
  within-attained (suc k) v l = go (largest-is step G.n) (λ u m. within-attained k u m)
    where
      step : ℕ → ℕ
      step u = pick (G.edge v u) (f u + ahead_within G f k u) 0

      some : (x : ℕ) → x ≤ 0 → (p : List ℕ) × ToSink G (v ∷ p) × (x ≤ along f p)
      some x z = let t = to_sink W (ranked W A) v l in (t.0, t.1, omega arith)

      via : (u : ℕ) → (b : Bool) → G.edge v u ≡ b → ((p : List ℕ) × ToSink G (u ∷ p) × (ahead_within G f k u ≤ along f p))
          → (p : List ℕ) × ToSink G (v ∷ p) × (pick b (f u + ahead_within G f k u) 0 ≤ along f p)
      via u true e r = (u ∷ r.0, link e r.1, omega (arith, r.2))
      via u false e r = some 0 zero-le

      go : (largest step G.n ≡ 0) ⊎ ((u : ℕ) × (u < G.n) × (largest step G.n ≡ step u))
          → ((u : ℕ) → u < G.n → (p : List ℕ) × ToSink G (u ∷ p) × (ahead_within G f k u ≤ along f p))
          → (p : List ℕ) × ToSink G (v ∷ p) × (largest step G.n ≤ along f p)
      go (inl z) ih = some (largest step G.n) (omega (arith, z))
      go (inr r) ih = rw r.2 (via r.0 (G.edge v r.0) refl (ih r.0 r.1))

  ahead-computed : (v : ℕ) → v < G.n → Ahead G f v (ahead_of G f v)
  unfolding ahead_of
  ahead-computed v l =
      let r = within-attained G.n v l in
      record {
        path = r.0;
        to_sink = r.1;
        attained = omega (arith, r.2, within-covers G.n v r.0 r.1 (omega (arith, path-short W A r.1)));
        unexceeded = λ p t. within-covers G.n v p t (omega (arith, path-short W A t));
      }

  -- ---- the head

  source-sum : (v : ℕ) → v < G.n → Source G v → sum_at f (ahead_of G f) v ≤ greatest_of G f
  unfolding greatest_of
  source-sum v l s =
      omega (
        arith,
        picked (source G v) (sum_at f (ahead_of G f) v) ((source-tells W).complete v l s),
        largest-most (λ v. pick (source G v) (sum_at f (ahead_of G f) v) 0) G.n v l,
      )

  some-source : (v : ℕ) × (v < G.n) × Source G v
  some-source =
      let d = to_sink W (ranked W A) 0 W.some in
      let r = to-source W (ranked W A) 0 d.0 d.1 in
      (r.top, head-known W r.path, r.has)

  -- some source attains the largest
  attains : (v : ℕ) × (v < G.n) × (source G v ≡ true) × (sum_at f (ahead_of G f) v ≡ greatest_of G f)
  unfolding greatest_of
  attains = go some-source (largest-is (λ v. pick (source G v) (sum_at f (ahead_of G f) v) 0) G.n)
    where
      zero-sum : greatest_of G f ≡ 0 → (v : ℕ) × (v < G.n) × Source G v → (v : ℕ) × (v < G.n) × (source G v ≡ true) × (sum_at f (ahead_of G f) v ≡ greatest_of G f)
      zero-sum z s = (s.0, s.1, (source-tells W).complete s.0 s.1 s.2, omega (arith, source-sum s.0 s.1 s.2, z))

      via : (v : ℕ) → v < G.n → (b : Bool) → source G v ≡ b → greatest_of G f ≡ pick b (sum_at f (ahead_of G f) v) 0 → (v : ℕ) × (v < G.n) × Source G v
          → (v : ℕ) × (v < G.n) × (source G v ≡ true) × (sum_at f (ahead_of G f) v ≡ greatest_of G f)
      via v l true e h s = (v, l, e, sym h)
      via v l false e h s = zero-sum h s

      go : (v : ℕ) × (v < G.n) × Source G v → (greatest_of G f ≡ 0) ⊎ ((v : ℕ) × (v < G.n) × (greatest_of G f ≡ pick (source G v) (sum_at f (ahead_of G f) v) 0))
          → (v : ℕ) × (v < G.n) × (source G v ≡ true) × (sum_at f (ahead_of G f) v ≡ greatest_of G f)
      go s (inl z) = zero-sum z s
      go s (inr r) = via r.0 r.1 (source G r.0) refl r.2 s

  head-computed : Head G (sum_at f (ahead_of G f)) (head_of G f)
  unfolding head_of
  head-computed =
      record {
        known = known;
        is_source = (source-tells W).sound h known (left-of (source G h) (eqb (sum_at f (ahead_of G f) h) (greatest_of G f)) holds);
        most = λ u l s. omega (arith, top, source-sum u l s);
        first = λ u l s. strictly u l s (ℕ_discrete (sum_at f (ahead_of G f) u) (greatest_of G f));
      }
    where
      test : ℕ → Bool
      test v = source G v && eqb (sum_at f (ahead_of G f) v) (greatest_of G f)

      h : ℕ
      h = first test G.n

      -- a place past the first would be one that holds
      known : h < G.n
      known = go (le-or-lt G.n h)
        where
          a : (v : ℕ) × (v < G.n) × (source G v ≡ true) × (sum_at f (ahead_of G f) v ≡ greatest_of G f)
          a = attains

          go : (G.n ≤ h) ⊎ (h < G.n) → h < G.n
          go (inr l) = l
          go (inl l) =
              absurd (clash (both (source G a.0) (eqb (sum_at f (ahead_of G f) a.0) (greatest_of G f)) a.2 (eq-eqb (sum_at f (ahead_of G f) a.0) (greatest_of G f) a.3))
              (first_below test G.n a.0 (omega (arith, a.1))))

      holds : test h ≡ true
      holds = first-here test G.n known

      top : sum_at f (ahead_of G f) h ≡ greatest_of G f
      top = eqb-true (sum_at f (ahead_of G f) h) (greatest_of G f) (right_of (source G h) (eqb (sum_at f (ahead_of G f) h) (greatest_of G f)) holds)

      less : (u : ℕ) → u < h → Source G u → sum_at f (ahead_of G f) u ≡ greatest_of G f → ⊥
      less u l s e =
          clash (both (source G u) (eqb (sum_at f (ahead_of G f) u) (greatest_of G f)) ((source-tells W).complete u (omega (arith, known)) s) (eq-eqb (sum_at f (ahead_of G f) u) (greatest_of G f) e))
          (first_below test G.n u l)

      strictly : (u : ℕ) → u < h → Source G u → Dec (sum_at f (ahead_of G f) u ≡ greatest_of G f) → sum_at f (ahead_of G f) u < sum_at f (ahead_of G f) h
      strictly u l s (yes e) = absurd (less u l s e)
      strictly u l s (no x) = omega (arith, top, source-sum u (omega (arith, known)) s)

  head-sum : sum_at f (ahead_of G f) (head_of G f) ≡ greatest_of G f
  head-sum =
      let a = attains in
      let H = head-computed in
      omega (arith, a.3, H.most a.0 a.1 ((source-tells W).sound a.0 a.1 a.2), source-sum (head_of G f) H.known H.is_source)

  pub greatest_computed : Greatest G (along f) (greatest_of G f)
  greatest_computed = rw head-sum at (head_greatest W f (ahead_of G f) (head_of G f) ahead-computed head-computed)

  -- ---- the path

  steps-computed : (k u : ℕ) → u < G.n → ((p : List ℕ) → ToSink G (u ∷ p) → length p ≤ k) → Trace G f (ahead_of G f) u (steps_of G f k u)
  unfolding steps_of next_of along
  steps-computed zero u l h = let a = ahead-computed u l in last a.path a.to_sink
    where
      last : (p : List ℕ) → ToSink G (u ∷ p) → Trace G f (ahead_of G f) u []
      last [] (end m t) = stop m t
      last (x ∷ p) t = absurd (omega (arith, h (x ∷ p) t))
  steps-computed (suc k) u l h = go (le-or-lt G.n (next_of G f u)) (λ m. steps-computed k (next_of G f u) m)
    where
      test : ℕ → Bool
      test x = G.edge u x && eqb (sum_at f (ahead_of G f) x) (ahead_of G f u)

      keeps : (x : ℕ) → Edge G u x → sum_at f (ahead_of G f) x ≡ ahead_of G f u → test x ≡ true
      keeps x e k = both (G.edge u x) (eqb (sum_at f (ahead_of G f) x) (ahead_of G f u)) e (eq-eqb (sum_at f (ahead_of G f) x) (ahead_of G f u) k)

      -- an edge of a longest path keeps the sum
      kept : (x : ℕ) (p : List ℕ) → Edge G u x → ToSink G (x ∷ p) → f x + along f p ≡ ahead_of G f u → sum_at f (ahead_of G f) x ≡ ahead_of G f u
      kept x p e c q =
          let b = ahead-computed x (W.to u x e) in
          omega (arith, b.attained, b.unexceeded p c, (ahead-computed u l).unexceeded (x ∷ b.path) (link e b.to_sink))

      sink : G.n ≤ next_of G f u → (p : List ℕ) → ToSink G (u ∷ p) → along f p ≡ ahead_of G f u → Sink G u
      sink m [] (end j t) q = t
      sink m (x ∷ p) (link e c) q = absurd (clash (keeps x e (kept x p e c q)) (first_below test G.n x (omega (arith, W.to u x e))))

      go : (G.n ≤ next_of G f u) ⊎ (next_of G f u < G.n)
          → (next_of G f u < G.n → ((p : List ℕ) → ToSink G (next_of G f u ∷ p) → length p ≤ k) → Trace G f (ahead_of G f) (next_of G f u) (steps_of G f k (next_of G f u)))
          → Trace G f (ahead_of G f) u (steps_of G f (suc k) u)
      go (inl m) ih = rw (le-ltb (next_of G f u) G.n m) (let a = ahead-computed u l in stop l (sink m a.path a.to_sink a.attained))
      go (inr m) ih = rw (lt-ltb (next_of G f u) G.n m) (on edge keeping least (ih m (λ p c. omega (arith, h (next_of G f u ∷ p) (link edge c)))))
        where
          edge : Edge G u (next_of G f u)
          edge = left-of (G.edge u (next_of G f u)) (eqb (sum_at f (ahead_of G f) (next_of G f u)) (ahead_of G f u)) (first-here test G.n m)

          keeping : sum_at f (ahead_of G f) (next_of G f u) ≡ ahead_of G f u
          keeping = eqb-true (sum_at f (ahead_of G f) (next_of G f u)) (ahead_of G f u)
              (right_of (G.edge u (next_of G f u)) (eqb (sum_at f (ahead_of G f) (next_of G f u)) (ahead_of G f u)) (first-here test G.n m))

          least : (x : ℕ) → Edge G u x → sum_at f (ahead_of G f) x ≡ ahead_of G f u → next_of G f u ≤ x
          least x e q = by (le-or-lt (next_of G f u) x)
            where
              by : (next_of G f u ≤ x) ⊎ (x < next_of G f u) → next_of G f u ≤ x
              by (inl j) = j
              by (inr j) = absurd (clash (keeps x e q) (first_below test G.n x j))

  pub least-longest_computed : LeastLongest G f (least_of G f)
  unfolding least_of
  least-longest_computed =
      let H = head-computed in
      trace-path W f (ahead_of G f) ahead-computed (head_of G f) _ H (steps-computed G.n (head_of G f) H.known (λ p t. omega (arith, path-short W A t)))
