-- The number of complete paths counts them, each once.
--
-- Every path from v to a sink has a number below `ways v`: those over the least successor come first, then those over the next, and so
-- on; and among those over u the order is that of the paths from u. So the k-th path is found by walking: at v, skip successors while
-- k is not below the number of paths over them.
use mathlib.Core.Path.{◌≡◌, refl, ap, sym, ◌∙◌}
use mathlib.Core.Bool.{Bool, true, false}
use mathlib.Core.List.{List, [], ◌∷◌, head-eq_of_cons-eq}
use Prim.Native.Nat.{ℕ, zero, suc, ◌+◌, ◌-◌, ◌≤◌, ◌<◌}
use native.Mathlib.Omega.{arith}
use lib.ListN.{length, get_or}
use Rattle.model.specs.Places.{pick, sum}
use Rattle.model.specs.Graph.{Graph, Edge, Source, Sink, source, sink, WellFormed}
use Rattle.model.specs.Cycle.{Acyclic}
use Rattle.model.specs.Path.{ToSink, end, link, Complete, complete}
use Rattle.model.specs.PathCount.{ways_within, ways, path_count, Numbered, AllPaths}
use Rattle.model.specs.Visit.{amid, path_within, path_at}
use Rattle.model.proofs.Bools.{clash}
use Rattle.model.proofs.Cycles.{ranked, rank_below}
use Rattle.model.proofs.Paths.{source-tells, sink-tells, head-known}
use Rattle.model.proofs.Numbered.{Fronted, Some, amid-at, amid-same, same_number, number-none, number-one, number_same, number_at, number-front, number-sum}

-- a path from v to a sink
pub record PathFrom (G : Graph) (v : ℕ) (p : List ℕ) : Type 0 where
  pub rest : List ℕ
  pub is : p ≡ v ∷ rest
  pub path : ToSink G (v ∷ rest)

one-first : {G : Graph} (u w : ℕ) (p : List ℕ) → PathFrom G u p → PathFrom G w p → u ≡ w
one-first u w p a b = head-eq_of_cons-eq (sym a.is ∙ b.is)

-- the paths over the edge from v to u, and those from the source v
record Over (G : Graph) (v u : ℕ) (p : List ℕ) : Type 0 where
  edge : Edge G v u
  onward : PathFrom G u p

record FromSource (G : Graph) (v : ℕ) (p : List ℕ) : Type 0 where
  begins : Source G v
  onward : PathFrom G v p

-- where a test holds the numbering stands, and else there is nothing to number
number_where : (P : List ℕ → Type 0) (b : Bool) (m : ℕ) (a : ℕ → List ℕ) → (b ≡ true → Numbered P m a) → (b ≡ false → (p : List ℕ) → P p → ⊥)
    → Numbered P (pick b m 0) a
number_where P true m a x none = x refl
number_where P false m a x none = number-none P a (none refl)

module _ {G : Graph} (W : WellFormed G) (A : Acyclic G) where
  path-at-sink : (v : ℕ) → v < G.n → Sink G v → Numbered (PathFrom G v) 1 (λ i. v ∷ [])
  path-at-sink v l s = number-one (PathFrom G v) (v ∷ []) (record { rest = []; is = refl; path = end l s }) (λ p h. sym (h.is ∙ ap (λ (q : List ℕ). v ∷ q) (stops h.rest h.path)))
    where
      stops : (q : List ℕ) → ToSink G (v ∷ q) → q ≡ []
      stops [] c = refl
      stops (u ∷ q) (link e c) = absurd (s u e)

  past-sink : (v : ℕ) → (Sink G v → ⊥) → {m : ℕ} {a : ℕ → List ℕ} → Numbered (Some (Over G v) G.n) m a → Numbered (PathFrom G v) m (λ i. v ∷ a i)
  past-sink v x o = number_same (PathFrom G v) to from (number-front v o)
    where
      to : (p : List ℕ) → Fronted v (Some (Over G v) G.n) p → PathFrom G v p
      to p h =
          let o = h.has_rest.has_it in
          record { rest = h.rest; is = h.is; path = rw o.onward.is (link o.edge o.onward.path) }

      next : (q : List ℕ) → ToSink G (v ∷ q) → Some (Over G v) G.n q
      next [] (end l s) = absurd (x s)
      next (u ∷ q) (link e c) = record { which = u; below = W.to v u e; has_it = record { edge = e; onward = record { rest = q; is = refl; path = c } } }

      from : (p : List ℕ) → PathFrom G v p → Fronted v (Some (Over G v) G.n) p
      from p h = record { rest = h.rest; is = h.is; has_rest = next h.rest h.path }

  pub from-numbered : (k v : ℕ) → v < G.n → G.n ≤ (ranked W A).rank v + k → Numbered (PathFrom G v) (ways_within G k v) (path_within G k v)
  unfolding ways_within path_within
  from-numbered zero v l h = absurd (omega (arith, rank_below W A v l))
  from-numbered (suc k) v l h = go (sink G v) refl (λ u e. from-numbered k u (W.to v u e) (omega (arith, (ranked W A).up v u e)))
    where
      go : (b : Bool) → sink G v ≡ b → ((u : ℕ) → Edge G v u → Numbered (PathFrom G u) (ways_within G k u) (path_within G k u))
          → Numbered (PathFrom G v) (pick b 1 (sum (λ u. pick (G.edge v u) (ways_within G k u) 0) G.n))
          (λ i. v ∷ pick b [] (amid (λ u. pick (G.edge v u) (ways_within G k u) 0) (λ u. path_within G k u) G.n i))
      go true t ih = path-at-sink v l ((sink-tells W).sound v l t)
      go false t ih = past-sink v (λ s. clash ((sink-tells W).complete v l s) t)
          (number-sum (Over G v) (λ u. pick (G.edge v u) (ways_within G k u) 0) (λ u. path_within G k u) (λ u w p a b. one-first u w p a.onward b.onward) G.n
          (λ u m. number_where (Over G v u) (G.edge v u) (ways_within G k u) (path_within G k u)
          (λ e. number_same (Over G v u) (λ p q. record { edge = e; onward = q }) (λ p q. q.onward) (ih u e)) (λ e p q. clash q.edge e)))

  -- THEOREM. The paths from v to a sink are numbered below `ways v`.
  pub ways-numbered : (v : ℕ) → v < G.n → Numbered (PathFrom G v) (ways G v) (path_within G G.n v)
  unfolding ways
  ways-numbered v l = from-numbered G.n v l (omega arith)

  within_same : (k v : ℕ) → v < G.n → G.n ≤ (ranked W A).rank v + k → (i : ℕ) → i < ways_within G k v → path_within G k v i ≡ path_within G (suc k) v i
  unfolding ways_within path_within
  within_same zero v l h i b = absurd (omega (arith, rank_below W A v l))
  within_same (suc k) v l h i b = go (sink G v) b (λ u e. within_same k u (W.to v u e) (omega (arith, (ranked W A).up v u e)))
    where
      below : ℕ → ℕ → ℕ
      below k u = pick (G.edge v u) (ways_within G k u) 0

      as_before : (u : ℕ) → u < G.n → below k u ≡ below (suc k) u
      as_before u m = by (G.edge v u) refl
        where
          by : (c : Bool) → G.edge v u ≡ c → pick c (ways_within G k u) 0 ≡ pick c (ways_within G (suc k) u) 0
          by true e = same_number (from-numbered k u m (omega (arith, (ranked W A).up v u e))) (from-numbered (suc k) u m (omega (arith, (ranked W A).up v u e)))
          by false e = refl

      go : (c : Bool) → i < pick c 1 (sum (below k) G.n)
          → ((u : ℕ) → Edge G v u → (j : ℕ) → j < ways_within G k u → path_within G k u j ≡ path_within G (suc k) u j)
          → v ∷ pick c [] (amid (below k) (λ u. path_within G k u) G.n i) ≡ v ∷ pick c [] (amid (below (suc k)) (λ u. path_within G (suc k) u) G.n i)
      go true b ih = refl
      go false b ih = ap (λ (q : List ℕ). v ∷ q) (amid-same (below k) (below (suc k)) (λ u. path_within G k u) (λ u. path_within G (suc k) u) G.n i as_before (λ u j m. by u j (G.edge v u) refl) b)
        where
          by : (u j : ℕ) (c : Bool) → G.edge v u ≡ c → j < pick c (ways_within G k u) 0 → path_within G k u j ≡ path_within G (suc k) u j
          by u j true e l = ih u e j l
          by u j false e l = absurd (omega arith)

  -- THEOREM. How the i-th path from v goes on: it ends at a sink; else it goes over the successor whose numbers i is among.
  pub path-ends : (v i : ℕ) → v < G.n → sink G v ≡ true → i < ways G v → path_within G G.n v i ≡ v ∷ []
  unfolding ways path_within
  path-ends v i l t b = within_same G.n v l (omega arith) i b ∙ rw t refl

  pub path-goes-on : (v u i : ℕ) → v < G.n → sink G v ≡ false → i < ways G v → u < G.n
      → sum (λ w. pick (G.edge v w) (ways G w) 0) u ≤ i → i < sum (λ w. pick (G.edge v w) (ways G w) 0) (suc u)
      → path_within G G.n v i ≡ v ∷ path_within G G.n u (i - sum (λ w. pick (G.edge v w) (ways G w) 0) u)
  unfolding ways path_within
  path-goes-on v u i l t b m h k =
      within_same G.n v l (omega arith) i b
      ∙ rw t (ap (λ (q : List ℕ). v ∷ q) (amid-at (λ w. pick (G.edge v w) (ways_within G G.n w) 0) (λ w. path_within G G.n w) G.n u i m h k))

  -- THEOREM. The complete paths are numbered below `path_count`: each number below it gives one, each of them has one number.
  pub paths_numbered : Numbered (Complete G) (path_count G) (path_at G)
  unfolding path_count path_at
  paths_numbered =
      number_same (Complete G) to from
      (number-sum (FromSource G) (λ v. pick (source G v) (ways G v) 0) (λ v. path_within G G.n v) (λ u w p a b. one-first u w p a.onward b.onward) G.n
      (λ v l. number_where (FromSource G v) (source G v) (ways G v) (path_within G G.n v)
      (λ t. number_same (FromSource G v) (λ p q. record { begins = (source-tells W).sound v l t; onward = q }) (λ p q. q.onward) (ways-numbered v l))
      (λ t p q. clash ((source-tells W).complete v l q.begins) t)))
    where
      to : (p : List ℕ) → Some (FromSource G) G.n p → Complete G p
      to p h = let o = h.has_it in rw o.onward.is (complete o.begins o.onward.path)

      from : (p : List ℕ) → Complete G p → Some (FromSource G) G.n p
      from p (complete {u = u} {p = q} s c) = record { which = u; below = head-known W c; has_it = record { begins = s; onward = record { rest = q; is = refl; path = c } } }

  -- THEOREM. However the complete paths are numbered, there are `path_count` of them.
  pub count_unique : {m : ℕ} {a : ℕ → List ℕ} → Numbered (Complete G) m a → m ≡ path_count G
  count_unique x = same_number x paths_numbered

-- ---- the list of all complete paths

listed : (ℕ → List ℕ) → ℕ → List (List ℕ)
listed a zero = []
listed a (suc m) = a zero ∷ listed (λ i. a (suc i)) m

listed-length : (a : ℕ → List ℕ) (m : ℕ) → length (listed a m) ≡ m
unfolding listed
listed-length a zero = refl
listed-length a (suc m) = ap suc (listed-length (λ i. a (suc i)) m)

listed_at : (a : ℕ → List ℕ) (m i : ℕ) → i < m → a i ≡ get_or (listed a m) i []
unfolding listed
listed_at a zero i l = absurd (omega arith)
listed_at a (suc m) zero l = refl
listed_at a (suc m) (suc i) l = listed_at (λ i. a (suc i)) m i (omega arith)

-- THEOREM. There is a list that holds each complete path exactly once, and nothing else, and it has `path_count` places; as has every such list.
pub all_paths : {G : Graph} → WellFormed G → Acyclic G → (l : List (List ℕ)) × AllPaths G l × (length l ≡ path_count G)
all_paths {G} W A =
    let e = listed-length (path_at G) (path_count G) in
    (listed (path_at G) (path_count G), rw e (number_at (λ i. get_or (listed (path_at G) (path_count G)) i []) (listed_at (path_at G) (path_count G)) (paths_numbered W A)), e)

pub all_paths_length : {G : Graph} → WellFormed G → Acyclic G → (l : List (List ℕ)) → AllPaths G l → length l ≡ path_count G
all_paths_length W A l x = count_unique W A x
