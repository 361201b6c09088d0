-- What is left of the longest path without the weight of v: the larger one of what passes the place of v and of the best path through v, from the
-- summary. It is the largest of the sums that `Scanned` compares, with the places as ranks.
use mathlib.Core.Path.{◌≡◌, sym, ap, ◌∙◌}
use mathlib.Core.List.{List}
use mathlib.Core.Logic.{◌⊎◌, inl, inr}
use Prim.Native.Nat.{ℕ, ◌+◌, ◌-◌, ◌≤◌, ◌<◌, max}
use native.Mathlib.Omega.{arith}
use lib.ListN.{get_or}
use Rattle.model.specs.Places.{along, largest}
use Rattle.model.specs.Graph.{Edge}
use Rattle.model.specs.Path.{Greatest}
use Rattle.model.proofs.Bools.{le-or-lt}
use Rattle.model.proofs.Sums.{largest-most, largest-is}
use Rattle.model.proofs.Joined.{without}
use Rattle.model.proofs.Scanned.{Scanned, via, past, up-to, from, LargestOf, scanned_greatest}
use Rattle.model.proofs.Summaries.{starting_greatest}
use Rattle.graph.specs.Model.{as_model}
use Rattle.graph.specs.declared.Graph.{Graph}
use Rattle.paths.specs.Ahead.{weigh, Weighed}
use Rattle.summary.specs.Tables.{Tables}
use Rattle.summary.specs.declared.Summary.{Summary}
use Rattle.summary.proofs.Along.{well_formed, vertex, place, place-below, place_at, vertex-at, rises}
use Rattle.summary.proofs.Raised.{Raised}
use Rattle.gaining.specs.Passing.{at, onward, TopFrom}
use Rattle.gaining.specs.declared.passing.Top.{Top}

module _ {g : Graph} {e st o : List ℕ} {n : ℕ} {w : List ℕ} (T : Weighed g e st o n w) (r : Summary) (S : Tables (as_model g) w r) where
  abbrev E : ℕ → ℕ
  E v = get_or r.ending v 0

  abbrev B : ℕ → ℕ
  B v = get_or r.starting v 0

  -- the best that goes on from v: what starts there, alone or with what leads there from the places before p
  abbrev pub Best : List ℕ → ℕ → ℕ → Type 0
  Best = Raised T (λ a. onward r.starting (E a)) B

  -- THEOREM. The largest sum that starts at any place is the longest path.
  pub len_greatest : (t : Top) → TopFrom o r.starting n 0 t → Greatest (as_model g) (along (weigh w)) t.most
  unfolding as_model
  len_greatest t F = starting_greatest (well_formed T) S.sums t.most most (is F.is)
    where
      most : (v : ℕ) → v < g.n → B v ≤ t.most
      most v l = rw (vertex-at T v l) at (F.most (place T v) (omega arith) (place-below T v l))

      is : (t.most ≡ 0) ⊎ ((q : ℕ) × (0 ≤ q) × (q < n) × (t.vertex ≡ get_or o q 0) × (t.most ≡ at o r.starting q))
          → (t.most ≡ 0) ⊎ ((v : ℕ) × (v < g.n) × (t.most ≡ B v))
      is (inl z) = inl z
      is (inr x) = inr (get_or o x.0 0, vertex T x.0 x.2, x.4)

  module _ (v : ℕ) (l : v < g.n) (s : List ℕ) (best : (x : ℕ) → x < g.n → Best s (place T v) x) (t : Top)
      (F : TopFrom o s n (place T v + 1) t) where
    abbrev p : ℕ
    p = place T v

    abbrev One : ℕ → Type 0
    One = Scanned (as_model g) (weigh w) E B (place T) v

    abbrev through : ℕ
    through = E v + B v - weigh w v - weigh w v

    -- what ended before
    abbrev ended : ℕ
    ended = largest (at o r.ending) p

    other : (u : ℕ) → place T u < p → u ≡ v → ⊥
    other u h q = omega (arith, ap (place T) q)

    -- ---- each that is compared is one of the sums, or 0

    top-is : One t.most ⊎ (t.most ≡ 0)
    unfolding as_model
    top-is = go F.is
      where
        on : (q : ℕ) → p + 1 ≤ q → q < n → t.most ≡ at o s q
            → (at o s q ≡ at o r.starting q)
            ⊎ ((a : ℕ) × Edge (as_model g) a (get_or o q 0) × (place T a < p) × (at o s q ≡ E a + at o r.starting q)) → One t.most
        on q a h z (inl y) = rw (z ∙ y) (from (vertex T q h) (omega (arith, place_at T q h)))
        on q a h z (inr y) = rw (z ∙ y.3) (past y.1 (other y.0 y.2) (omega (arith, y.2)) (omega (arith, place_at T q h)))

        go : (t.most ≡ 0) ⊎ ((q : ℕ) × (p + 1 ≤ q) × (q < n) × (t.vertex ≡ get_or o q 0) × (t.most ≡ at o s q)) → One t.most ⊎ (t.most ≡ 0)
        go (inl z) = inr z
        go (inr x) = inl (on x.0 x.1 x.2 x.4 (best (get_or o x.0 0) (vertex T x.0 x.2)).is)

    ended_is : One ended ⊎ (ended ≡ 0)
    unfolding as_model
    ended_is = go (largest-is (at o r.ending) p)
      where
        go : (ended ≡ 0) ⊎ ((i : ℕ) × (i < p) × (ended ≡ at o r.ending i)) → One ended ⊎ (ended ≡ 0)
        go (inl z) = inr z
        go (inr x) =
            let h : x.0 < n = omega (arith, x.1, place-below T v l) in
            let q = place_at T x.0 h in
            inl (rw x.2 (up-to (vertex T x.0 h) (other (get_or o x.0 0) (omega (arith, x.1))) (omega (arith, x.1))))

    -- ---- each of the sums is compared

    earlier : (a : ℕ) → a < g.n → (a ≡ v → ⊥) → place T a ≤ p → place T a < p
    earlier a m d h = go (le-or-lt p (place T a))
      where
        go : (p ≤ place T a) ⊎ (place T a < p) → place T a < p
        go (inl y) = absurd (d (sym (vertex-at T a m) ∙ (ap (λ (i : ℕ). get_or o i 0) (omega arith) ∙ vertex-at T v l)))
        go (inr y) = y

    top-most : (x : ℕ) → x < g.n → p < place T x → get_or s x 0 ≤ t.most
    top-most x m k = rw (vertex-at T x m) at (F.most (place T x) (omega arith) (place-below T x m))

    past-most : (a b : ℕ) → Edge (as_model g) a b → (a ≡ v → ⊥) → place T a ≤ p → p < place T b → E a + B b ≤ t.most
    unfolding as_model
    past-most a b d x h k =
        let m = (well_formed T).to a b d in
        omega (arith, (best b m).most a d (earlier a ((well_formed T).from a b d) x h), top-most b m k)

    up-to-most : (u : ℕ) → u < g.n → (u ≡ v → ⊥) → place T u ≤ p → E u ≤ ended
    up-to-most u m x h = rw (vertex-at T u m) at (largest-most (at o r.ending) p (place T u) (earlier u m x h))

    from-most : (u : ℕ) → u < g.n → p < place T u → B u ≤ t.most
    from-most u m k = omega (arith, (best u m).own, top-most u m k)

    largest-one : LargestOf One (max (max t.most ended) through)
    unfolding as_model
    largest-one = record { is = is; most = most }
      where
        chosen : (a b : ℕ) → One a → One b ⊎ (b ≡ 0) → One (max b a)
        chosen a b s t = go (le-or-lt b a) t
          where
            go : (b ≤ a) ⊎ (a < b) → One b ⊎ (b ≡ 0) → One (max b a)
            go (inl h) t = let z : max b a ≡ a = omega arith in rw z s
            go (inr h) (inl t) = let z : max b a ≡ b = omega arith in rw z t
            go (inr h) (inr q) = absurd (omega arith)

        is : One (max (max t.most ended) through)
        is =
            let z : max (max t.most ended) through ≡ max t.most (max ended through) = omega arith in
            rw z (chosen (max ended through) t.most (chosen through ended via ended_is) top-is)

        most : (y : ℕ) → One y → y ≤ max (max t.most ended) through
        most y via = omega arith
        most y (past {a = a} {b = b} d x h k) = omega (arith, past-most a b d x h k)
        most y (up-to {u = u} m x h) = omega (arith, up-to-most u m x h)
        most y (from {u = u} m k) = omega (arith, from-most u m k)

    -- THEOREM. It is the longest complete path with the weight of v taken as 0.
    pub left_greatest : Greatest (as_model g) (along (without (weigh w) v)) (max (max t.most ended) through)
    unfolding as_model
    left_greatest = scanned_greatest (well_formed T) (record { rank = place T; up = rises T }) (weigh w) S.sums v l largest-one
