-- The largest sum along a complete path exists, and among the paths that attain it there is a least one; both are unique.
--
-- From each vertex there is a best path to a sink: one that no other beats, where a path beats another by a larger sum, or by the
-- same sum and the smaller vertex at the first difference. Backwards along the ranks: a sink has one path; any other vertex takes
-- the best of its successors' best paths. The best over all sources is then found in the same way.
use mathlib.Core.Path.{◌≡◌, refl, ap, sym, ◌∙◌}
use mathlib.Core.List.{List, [], ◌∷◌}
use mathlib.Core.Logic.{◌⊎◌, inl, inr}
use mathlib.Core.Bool.{Bool, true, false}
use Prim.Native.Nat.{ℕ, zero, suc, ◌+◌, ◌-◌, ◌*◌, ◌/◌, ◌≤◌, ◌<◌}
use native.Mathlib.Omega.{arith}
use native.Mathlib.Decide.{ℕ_discrete}
use Rattle.model.specs.Places.{along, sum}
use Rattle.model.specs.Graph.{Graph, Edge, Source, Sink, WellFormed}
use Rattle.model.specs.Cycle.{Acyclic, Ranked}
use Rattle.model.specs.Path.{ToSink, end, link, Complete, complete, Greatest, Before, here, later, LeastLongest}
use Rattle.model.specs.Bounds.{OldB, NewB1, ThePath, PARTS, scaled, volume, most_cores_of}
use Rattle.model.proofs.Bools.{clash, le-or-lt}
use Rattle.model.proofs.Sums.{sum_term}
use Rattle.model.proofs.Cycles.{ranked}
use Rattle.model.proofs.Paths.{sink-or, source-or, head-known, to_sink, to-source}

-- q does not beat p
data Beaten (f : ℕ → ℕ) (q p : List ℕ) : Type 0 where
  less : along f q < along f p → Beaten f q p
  tie : along f q ≡ along f p → (q ≡ p) ⊎ Before p q → Beaten f q p

beaten_le : {f : ℕ → ℕ} {q p : List ℕ} → Beaten f q p → along f q ≤ along f p
beaten_le (less l) = omega arith
beaten_le (tie e b) = omega arith

beaten_tie : {f : ℕ → ℕ} {q p : List ℕ} → Beaten f q p → along f q ≡ along f p → (q ≡ p) ⊎ Before p q
beaten_tie (less l) e = absurd (omega arith)
beaten_tie (tie e b) x = b

-- the same vertex in front of both
beaten_front : {f : ℕ → ℕ} (u : ℕ) {q p : List ℕ} → Beaten f q p → Beaten f (u ∷ q) (u ∷ p)
unfolding along
beaten_front u (less l) = less (omega arith)
beaten_front u (tie e (inl x)) = tie (omega arith) (inl (ap (λ (r : List ℕ). u ∷ r) x))
beaten_front u (tie e (inr b)) = tie (omega arith) (inr (later b))

before_trans : {p q r : List ℕ} → Before p q → Before q r → Before p r
before_trans (here {u = u} {v = v} l) (here {v = w} m) = here {u = u} {v = w} (omega arith)
before_trans (here l) (later b) = here l
before_trans (later b) (here m) = here m
before_trans (later a) (later b) = later (before_trans a b)

beaten_trans : {f : ℕ → ℕ} {p q r : List ℕ} → Beaten f r q → Beaten f q p → Beaten f r p
beaten_trans (less l) x = less (omega (arith, beaten_le x))
beaten_trans (tie e b) (less l) = less (omega arith)
beaten_trans {f} {p} {q} {r} (tie e b) (tie e' b') = tie (e ∙ e') (go b b')
  where
    go : (r ≡ q) ⊎ Before q r → (q ≡ p) ⊎ Before p q → (r ≡ p) ⊎ Before p r
    go (inl x) (inl y) = inl (x ∙ y)
    go (inl x) (inr y) = inr (rw x y)
    go (inr x) (inl y) = inr (rw y at x)
    go (inr x) (inr y) = inr (before_trans y x)

-- of two paths with different first vertices one does not beat the other
beaten_or : (f : ℕ → ℕ) (u v : ℕ) (p q : List ℕ) → u < v → Beaten f (v ∷ q) (u ∷ p) ⊎ Beaten f (u ∷ p) (v ∷ q)
beaten_or f u v p q l = go (le-or-lt (along f (v ∷ q)) (along f (u ∷ p))) (ℕ_discrete (along f (v ∷ q)) (along f (u ∷ p)))
  where
    go : (along f (v ∷ q) ≤ along f (u ∷ p)) ⊎ (along f (u ∷ p) < along f (v ∷ q)) → Dec (along f (v ∷ q) ≡ along f (u ∷ p))
        → Beaten f (v ∷ q) (u ∷ p) ⊎ Beaten f (u ∷ p) (v ∷ q)
    go (inr m) d = inr (less m)
    go (inl m) (yes e) = inl (tie e (inr (here l)))
    go (inl m) (no e) = inl (less (omega arith))

-- a best path to a sink from v
record Best (G : Graph) (f : ℕ → ℕ) (v : ℕ) : Type 0 where
  rest : List ℕ
  path : ToSink G (v ∷ rest)
  unbeaten : (q : List ℕ) → ToSink G (v ∷ q) → Beaten f (v ∷ q) (v ∷ rest)

-- a best path among those from the vertices below n that have P
record BestOf (G : Graph) (f : ℕ → ℕ) (P : ℕ → Type 0) (n : ℕ) : Type 0 where
  top : ℕ
  below : top < n
  has : P top
  rest : List ℕ
  path : ToSink G (top ∷ rest)
  unbeaten : (v : ℕ) (q : List ℕ) → v < n → P v → ToSink G (v ∷ q) → Beaten f (v ∷ q) (top ∷ rest)

module _ {G : Graph} (f : ℕ → ℕ) (P : ℕ → Type 0) where
  -- one vertex more, which has P or has not
  skip : (n : ℕ) → (P n → ⊥) → BestOf G f P n → BestOf G f P (suc n)
  skip n x o = record {
    top = o.top;
    below = omega (arith, o.below);
    has = o.has;
    rest = o.rest;
    path = o.path;
    unbeaten = λ v q l h c. go v q l h c (ℕ_discrete v n);
  }
    where
      go : (v : ℕ) (q : List ℕ) → v < suc n → P v → ToSink G (v ∷ q) → Dec (v ≡ n) → Beaten f (v ∷ q) (o.top ∷ o.rest)
      go v q l h c (yes e) = absurd (x (rw e at h))
      go v q l h c (no e) = o.unbeaten v q (omega arith) h c

  alone : (n : ℕ) → P n → ((v : ℕ) → v < n → P v → ⊥) → Best G f n → BestOf G f P (suc n)
  alone n x none b = record {
    top = n;
    below = omega arith;
    has = x;
    rest = b.rest;
    path = b.path;
    unbeaten = λ v q l h c. go v q l h c (ℕ_discrete v n);
  }
    where
      go : (v : ℕ) (q : List ℕ) → v < suc n → P v → ToSink G (v ∷ q) → Dec (v ≡ n) → Beaten f (v ∷ q) (n ∷ b.rest)
      go v q l h c (yes e) = rw e (b.unbeaten q (rw e at c))
      go v q l h c (no e) = absurd (none v (omega arith) h)

  join : (n : ℕ) → P n → Best G f n → BestOf G f P n → BestOf G f P (suc n)
  join n x b o = by (beaten_or f o.top n o.rest b.rest o.below)
    where
      by : Beaten f (n ∷ b.rest) (o.top ∷ o.rest) ⊎ Beaten f (o.top ∷ o.rest) (n ∷ b.rest) → BestOf G f P (suc n)
      by (inl k) = record {
        top = o.top;
        below = omega (arith, o.below);
        has = o.has;
        rest = o.rest;
        path = o.path;
        unbeaten = λ v q l h c. go v q l h c (ℕ_discrete v n);
      }
        where
          go : (v : ℕ) (q : List ℕ) → v < suc n → P v → ToSink G (v ∷ q) → Dec (v ≡ n) → Beaten f (v ∷ q) (o.top ∷ o.rest)
          go v q l h c (yes e) = rw e (beaten_trans (b.unbeaten q (rw e at c)) k)
          go v q l h c (no e) = o.unbeaten v q (omega arith) h c
      by (inr k) = record {
        top = n;
        below = omega arith;
        has = x;
        rest = b.rest;
        path = b.path;
        unbeaten = λ v q l h c. go v q l h c (ℕ_discrete v n);
      }
        where
          go : (v : ℕ) (q : List ℕ) → v < suc n → P v → ToSink G (v ∷ q) → Dec (v ≡ n) → Beaten f (v ∷ q) (n ∷ b.rest)
          go v q l h c (yes e) = rw e (b.unbeaten q (rw e at c))
          go v q l h c (no e) = beaten_trans (o.unbeaten v q (omega arith) h c) k

  best_of : (n : ℕ) → ((v : ℕ) → v < n → P v ⊎ (P v → ⊥)) → ((v : ℕ) → v < n → P v → Best G f v) → ((v : ℕ) → v < n → P v → ⊥) ⊎ BestOf G f P n
  best_of zero d b = inl (λ v l h. omega arith)
  best_of (suc n) d b = go (d n (omega arith)) (best_of n (λ v l. d v (omega arith)) (λ v l. b v (omega arith)))
    where
      go : P n ⊎ (P n → ⊥) → ((v : ℕ) → v < n → P v → ⊥) ⊎ BestOf G f P n → ((v : ℕ) → v < suc n → P v → ⊥) ⊎ BestOf G f P (suc n)
      go (inr x) (inl none) = inl (λ v l h. last v l h (ℕ_discrete v n))
        where
          last : (v : ℕ) → v < suc n → P v → Dec (v ≡ n) → ⊥
          last v l h (yes e) = x (rw e at h)
          last v l h (no e) = none v (omega arith) h
      go (inr x) (inr o) = inr (skip n x o)
      go (inl x) (inl none) = inr (alone n x none (b n (omega arith) x))
      go (inl x) (inr o) = inr (join n x (b n (omega arith) x) o)

holds-or : (b : Bool) → (b ≡ true) ⊎ (b ≡ true → ⊥)
holds-or true = inl refl
holds-or false = inr (λ e. clash e refl)

module _ {G : Graph} (W : WellFormed G) (R : Ranked G) (f : ℕ → ℕ) where
  at-sink : (v : ℕ) → v < G.n → Sink G v → Best G f v
  at-sink v l s = record { rest = []; path = end l s; unbeaten = λ q c. go q c }
    where
      go : (q : List ℕ) → ToSink G (v ∷ q) → Beaten f (v ∷ q) (v ∷ [])
      go [] c = tie refl (inl refl)
      go (w ∷ q) (link e c) = absurd (s w e)

  over-edge : (v w : ℕ) → Edge G v w → BestOf G f (λ u. Edge G v u) G.n → Best G f v
  over-edge v w e o = record { rest = o.top ∷ o.rest; path = link o.has o.path; unbeaten = λ q c. go q c }
    where
      go : (q : List ℕ) → ToSink G (v ∷ q) → Beaten f (v ∷ q) (v ∷ (o.top ∷ o.rest))
      go [] (end l s) = absurd (s w e)
      go (u ∷ q) (link x c) = beaten_front v (o.unbeaten u q (W.to v u x) x c)

  best-from : (k v : ℕ) → v < G.n → sum R.rank G.n < R.rank v + k → Best G f v
  best-from zero v l h = absurd (omega (arith, sum_term R.rank v G.n l))
  best-from (suc k) v l h = go (sink-or W v) (λ u e. best-from k u (W.to v u e) (omega (arith, R.up v u e)))
    where
      go : Sink G v ⊎ ((u : ℕ) × Edge G v u) → ((u : ℕ) → Edge G v u → Best G f u) → Best G f v
      go (inl s) ih = at-sink v l s
      go (inr r) ih = among (best_of f (λ u. Edge G v u) G.n (λ u m. holds-or (G.edge v u)) (λ u m e. ih u e))
        where
          among : ((u : ℕ) → u < G.n → Edge G v u → ⊥) ⊎ BestOf G f (λ u. Edge G v u) G.n → Best G f v
          among (inl none) = absurd (none r.0 (W.to v r.0 r.1) r.1)
          among (inr o) = over-edge v r.0 r.1 o

  best : (v : ℕ) → v < G.n → Best G f v
  best v l = best-from (suc (sum R.rank G.n)) v l (omega arith)

  source_is : (v : ℕ) → v < G.n → Source G v ⊎ (Source G v → ⊥)
  source_is v l = go (source-or W v)
    where
      go : Source G v ⊎ ((u : ℕ) × Edge G u v) → Source G v ⊎ (Source G v → ⊥)
      go (inl s) = inl s
      go (inr r) = inr (λ s. s r.0 r.1)

  best-complete : (p : List ℕ) × LeastLongest G f p
  best-complete = go (best_of f (Source G) G.n source_is (λ v l s. best v l))
    where
      go : ((v : ℕ) → v < G.n → Source G v → ⊥) ⊎ BestOf G f (Source G) G.n → (p : List ℕ) × LeastLongest G f p
      go (inl none) =
          let d = to_sink W R 0 W.some in
          let r = to-source W R 0 d.0 d.1 in
          absurd (none r.top (head-known W r.path) r.has)
      go (inr o) = (
        o.top ∷ o.rest,
        record {
          is_complete = complete o.has o.path;
          longest = λ q c. beaten_le (over q c);
          least = λ q c e. beaten_tie (over q c) e;
        },
      )
        where
          over : (q : List ℕ) → Complete G q → Beaten f q (o.top ∷ o.rest)
          over q (complete {u = u} {p = p} s c) = o.unbeaten u p (head-known W c) s c

-- ---- the theorems

-- THEOREM. Some complete path attains the largest sum, whatever the weights; and that sum is unique.
pub greatest_exists : {G : Graph} → WellFormed G → Acyclic G → (f : ℕ → ℕ) → (x : ℕ) × Greatest G (along f) x
greatest_exists W A f =
    let b = best-complete W (ranked W A) f in
    (along f b.0, record { path = b.0; is_complete = b.1.is_complete; attained = refl; unexceeded = b.1.longest })

pub greatest_unique : {G : Graph} {value : List ℕ → ℕ} {x y : ℕ} → Greatest G value x → Greatest G value y → x ≡ y
greatest_unique {value = value} a b =
    let h = b.unexceeded a.path a.is_complete in
    let k = a.unexceeded b.path b.is_complete in
    omega (arith, a.attained, b.attained)

-- THEOREM. Every well-formed acyclic graph has an OLD-B and a NEW-B-1, and one of each only.
pub old_b_exists : {G : Graph} → WellFormed G → Acyclic G → (B : ℕ) × OldB G B
old_b_exists {G} W A =
    let x = greatest_exists W A G.wcet in
    ((PARTS - PARTS / most_cores_of G) * x.0 + volume G, record { len = x.0; longest = x.1; is = refl })

pub new_b_1_exists : {G : Graph} → WellFormed G → Acyclic G → (B : ℕ) × NewB1 G B
new_b_1_exists {G} W A = let x = greatest_exists W A (scaled G) in (x.0 + volume G, record { len = x.0; longest = x.1; is = refl })

pub old_b_unique : {G : Graph} (B B' : ℕ) → OldB G B → OldB G B' → B ≡ B'
old_b_unique {G} B B' a b =
    a.is ∙ (ap (λ (x : ℕ). (PARTS - PARTS / most_cores_of G) * x + volume G) (greatest_unique a.longest b.longest) ∙ sym b.is)

pub new_b_1_unique : {G : Graph} (B B' : ℕ) → NewB1 G B → NewB1 G B' → B ≡ B'
new_b_1_unique {G} B B' a b = a.is ∙ (ap (λ (x : ℕ). x + volume G) (greatest_unique a.longest b.longest) ∙ sym b.is)

-- THEOREM. The least path among those with the largest scaled sum exists, and is unique.
pub path_exists : {G : Graph} → WellFormed G → Acyclic G → (p : List ℕ) × ThePath G p
path_exists {G} W A = best-complete W (ranked W A) (scaled G)

-- what comes before a list stands so at their first vertices: a smaller one, or the same one and then the rest
first_or_later : {u v : ℕ} {p q : List ℕ} → Before (u ∷ p) (v ∷ q) → (u < v) ⊎ ((u ≡ v) × Before p q)
first_or_later (here l) = inl l
first_or_later (later a) = inr (refl, a)

apart : (p q : List ℕ) → Before p q → Before q p → ⊥
apart [] q a b = elim a [ ]
apart (u ∷ p) [] a b = elim a [ ]
apart (u ∷ p) (v ∷ q) a b = go (apart p q) (first_or_later a) (first_or_later b)
  where
    go : (Before p q → Before q p → ⊥) → (u < v) ⊎ ((u ≡ v) × Before p q) → (v < u) ⊎ ((v ≡ u) × Before q p) → ⊥
    go rest (inl l) (inl m) = omega arith
    go rest (inl l) (inr e) = omega arith
    go rest (inr e) (inl m) = omega arith
    go rest (inr e) (inr f) = rest e.1 f.1

pub before-not-both : {p q : List ℕ} → Before p q → Before q p → ⊥
before-not-both {p} {q} a b = apart p q a b

pub path_unique : {G : Graph} {p q : List ℕ} → ThePath G p → ThePath G q → p ≡ q
path_unique {G} {p} {q} a b =
    let h = a.longest q b.is_complete in
    let k = b.longest p a.is_complete in
    go (a.least q b.is_complete (omega arith)) (b.least p a.is_complete (omega arith))
  where
    go : (q ≡ p) ⊎ Before p q → (p ≡ q) ⊎ Before q p → p ≡ q
    go (inl e) x = sym e
    go (inr x) (inl e) = e
    go (inr x) (inr y) = absurd (before-not-both x y)

-- the path attains NEW-B-1
pub path_attains : {G : Graph} {p : List ℕ} → ThePath G p → NewB1 G (along (scaled G) p + volume G)
path_attains {G} {p} h = record {
  len = along (scaled G) p;
  longest = record { path = p; is_complete = h.is_complete; attained = refl; unexceeded = h.longest };
  is = refl;
}
