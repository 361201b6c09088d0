-- Order 11: better hardware and less work never raise NEW-B-1 or NEW-B-2, and removing edges never raises NEW-B-1.
--
-- A path's value in either bound is its WCETs in whole ticks and shares of others (Values): every term falls with a WCET and with a share,
-- and a share falls with more cores. Where only board and work change, the complete paths and the vertices beside each stay. Where edges are
-- missing, a complete path of the looser graph is a chain of the other one, and part of a complete path there: it goes back to a source and on
-- to a sink.
use mathlib.Core.Path.{◌≡◌, ap, sym, ◌∙◌}
use mathlib.Core.Logic.{◌⊎◌, inl, inr}
use mathlib.Core.Bool.{Bool, true, false, not, ◌||◌}
use mathlib.Core.List.{List, ◌∷◌}
use Prim.Native.Nat.{ℕ, ◌+◌, ◌*◌, ◌≤◌, ◌<◌}
use native.Mathlib.Nat.{mul-le-mul_left, mul-le-mul_right}
use native.Mathlib.Omega.{arith}
use Rattle.model.specs.Places.{pick, sum, along}
use Rattle.model.specs.Graph.{Graph, WellFormed}
use Rattle.model.specs.Cycle.{Acyclic}
use Rattle.model.specs.Path.{ToSink, end, link, Complete, complete}
use Rattle.model.specs.Bounds.{PARTS, scaled, volume, NewB1}
use Rattle.model.specs.Second.{Parallel, parallel, second, NewB2}
use Rattle.model.specs.PathCount.{path_count}
use Rattle.model.specs.Better.{NoWorse, Better, Looser}
use Rattle.model.proofs.Bools.{or_left, or_right, or_cases}
use Rattle.model.proofs.Sums.{sum_mono}
use Rattle.model.proofs.Cycles.{walk_within, ranked}
use Rattle.model.proofs.Paths.{along-path, to_sink, to-source, Extends, same, more}
use Rattle.model.proofs.Shares.{share, share_falls}
use Rattle.model.proofs.Alike.{Alike, alike_back, to-sink_alike, complete_alike, walk_alike}
use Rattle.model.proofs.Parallel.{near, on, is-parallel, parallel-holds}
use Rattle.model.proofs.Numbered.{number_same}
use Rattle.model.proofs.Counted.{paths_numbered, count_unique}
use Rattle.model.proofs.Values.{value_of, value_aside, along-on, first-apart, second-value}

-- ---- the same path, the same vertices beside it

module _ {G H : Graph} (W : WellFormed G) (W' : WellFormed H) (N : NoWorse G H) where
  share-less : (v : ℕ) → v < G.n → share H v ≤ share G v
  unfolding share
  share-less v l =
      let k = W.kind_known v l in
      rw (N.same_kind v l) (share_falls PARTS (G.cores (G.kind v)) (H.cores (G.kind v)) (W.some_core (G.kind v) k) (N.more_cores (G.kind v) k))

  value-falls : (aside : ℕ → Bool) (p : List ℕ) → ToSink H p → value_of H H.wcet aside p ≤ value_of G G.wcet aside p
  unfolding value_of
  value-falls aside p c =
      omega (
        arith,
        along-path W' (λ v. H.wcet v * PARTS) (λ v. G.wcet v * PARTS) c (λ v l. mul-le-mul_right PARTS (N.less_work v (known l))),
        sum_mono (λ v. H.wcet v * pick (aside v) (share H v) 0) (λ v. G.wcet v * pick (aside v) (share G v) 0) G.n (λ v l. each v l (aside v)),
        ap (λ (n : ℕ). sum (λ v. H.wcet v * pick (aside v) (share H v) 0) n) N.same_n,
      )
    where
      known : {v : ℕ} → v < H.n → v < G.n
      known l = omega (arith, N.same_n)

      each : (v : ℕ) → v < G.n → (b : Bool) → H.wcet v * pick b (share H v) 0 ≤ G.wcet v * pick b (share G v) 0
      each v l true = omega (arith, mul-le-mul_left (H.wcet v) (share-less v l), mul-le-mul_right (share G v) (N.less_work v l))
      each v l false = omega arith

-- ---- the same edges

pub better_alike : {G H : Graph} → Better G H → Alike G H
better_alike b = record { vertices = sym b.no_worse.same_n; edges = λ u v. sym (b.same_edges u v) }

module _ {G H : Graph} (W : WellFormed G) (W' : WellFormed H) (B : Better G H) where
  same-parallel : {u v : ℕ} → u < G.n → v < G.n → Parallel H u v → Parallel G u v
  same-parallel {u} {v} l m h = record {
    same_kind = sym (B.no_worse.same_kind u l) ∙ (h.same_kind ∙ B.no_worse.same_kind v m);
    differ = h.differ;
    not_before = λ w. h.not_before (walk_alike (better_alike B) w);
    not_after = λ w. h.not_after (walk_alike (better_alike B) w);
  }

  same-near : {p : List ℕ} → ToSink G p → (v : ℕ) → v < G.n → near H p v ≡ true → near G p v ≡ true
  unfolding near
  same-near (end {v = u} m s) v l t = go (or_cases (parallel H v u) false t)
    where
      go : (parallel H v u ≡ true) ⊎ (false ≡ true) → parallel G v u || false ≡ true
      go (inl x) = or_left (parallel G v u) false (parallel-holds (same-parallel l m (is-parallel W' v u x)))
      go (inr x) = or_right (parallel G v u) false x
  same-near (link {u = u} {v = w} {p = p} e c) v l t = go (or_cases (parallel H v u) (near H (w ∷ p) v) t) (same-near c v l)
    where
      go : (parallel H v u ≡ true) ⊎ (near H (w ∷ p) v ≡ true) → (near H (w ∷ p) v ≡ true → near G (w ∷ p) v ≡ true)
          → parallel G v u || near G (w ∷ p) v ≡ true
      go (inl x) ih = or_left (parallel G v u) (near G (w ∷ p) v) (parallel-holds (same-parallel l (W.from u w e) (is-parallel W' v u x)))
      go (inr x) ih = or_right (parallel G v u) (near G (w ∷ p) v) (ih x)

  second-falls : {p : List ℕ} → ToSink H p → second H p ≤ second G p
  second-falls {p} c =
      omega (
        arith,
        second-value W' p,
        second-value W p,
        value-falls W W' B.no_worse (near H p) p c,
        value_aside G G.wcet (near H p) (near G p) p (same-near (to-sink_alike (alike_back (better_alike B)) c)),
      )

-- THEOREM. NEW-B-2 does not rise on a better board or with less work.
pub better_second : {G H : Graph} → WellFormed G → WellFormed H → Better G H → (B B' : ℕ) → NewB2 G B → NewB2 H B' → B' ≤ B
better_second {G} {H} W W' b B B' x y = go y.path y.is_complete y.attained
  where
    go : (p : List ℕ) → Complete H p → second H p ≡ B' → B' ≤ B
    go p (complete s c) e = omega (arith, second-falls W W' b c, x.unexceeded p (complete_alike (alike_back (better_alike b)) (complete s c)))

-- ---- fewer edges

module _ {G H : Graph} (W : WellFormed G) (W' : WellFormed H) (A : Acyclic G) (L : Looser G H) where
  pub looser_acyclic : Acyclic H
  looser_acyclic v x = A v (walk_within L.old_edges x)

  -- a path to a sink of H goes on to a sink of G
  record Onward (f : ℕ → ℕ) (v : ℕ) (p : List ℕ) : Type 0 where
    rest : List ℕ
    path : ToSink G (v ∷ rest)
    more_of : along f (v ∷ p) ≤ along f (v ∷ rest)

  onward : (f : ℕ → ℕ) {v : ℕ} {p : List ℕ} → ToSink H (v ∷ p) → Onward f v p
  unfolding along
  onward f (end {v = v} l s) =
      let d = to_sink W (ranked W A) v (omega (arith, L.no_worse.same_n)) in
      record { rest = d.0; path = d.1; more_of = omega arith }
  onward f (link {u = u} {v = v} e c) =
      let r = onward f c in
      record { rest = v ∷ r.rest; path = link (L.old_edges u v e) r.path; more_of = omega (arith, r.more_of) }

  back : (f : ℕ → ℕ) {p q : List ℕ} → Extends p q → along f p ≤ along f q
  unfolding along
  back f same = omega arith
  back f (more x) = omega (arith, back f x)

  -- every complete path of H is part of one of G
  part_of : (f : ℕ → ℕ) (p : List ℕ) → Complete H p → (q : List ℕ) × Complete G q × (along f p ≤ along f q)
  part_of f p (complete {u = u} {p = r} s c) =
      let o = onward f c in
      let t = to-source W (ranked W A) u o.rest o.path in
      (t.top ∷ t.rest, complete t.has t.path, omega (arith, o.more_of, back f t.over))

  first-falls : {p : List ℕ} → ToSink H p → along (scaled H) p + volume H ≤ along (scaled G) p + volume G
  first-falls {p} c =
      let apart : (f : ℕ → ℕ) → along f p ≡ sum (λ v. pick (on p v) (f v) 0) H.n = along-on W' looser_acyclic c in
      omega (
        arith,
        first-apart W' p apart,
        first-apart W p (rw L.no_worse.same_n at apart),
        value-falls W W' L.no_worse (λ v. not (on p v)) p c,
      )

  -- THEOREM. NEW-B-1 does not rise on a better board, with less work, or with fewer edges.
  pub looser_new : (B B' : ℕ) → NewB1 G B → NewB1 H B' → B' ≤ B
  looser_new B B' x y = go y.longest.path y.longest.is_complete y.longest.attained
    where
      go : (p : List ℕ) → Complete H p → along (scaled H) p ≡ y.len → B' ≤ B
      go p (complete s c) e =
          let q = part_of (scaled G) p (complete s c) in
          omega (arith, y.is, x.is, first-falls c, q.2, x.longest.unexceeded q.0 q.1)

pub better_looser : {G H : Graph} → Better G H → Looser G H
better_looser b = record { no_worse = b.no_worse; old_edges = λ u v x. sym (b.same_edges u v) ∙ x }

-- THEOREM. NEW-B-1 does not rise on a better board or with less work.
pub better_new : {G H : Graph} → WellFormed G → WellFormed H → Acyclic G → Better G H → (B B' : ℕ) → NewB1 G B → NewB1 H B' → B' ≤ B
better_new W W' A b = looser_new W W' A (better_looser b)

-- THEOREM. They have as many complete paths, so that both get NEW-B-2 or neither does.
pub better_count : {G H : Graph} → WellFormed G → WellFormed H → Acyclic G → Better G H → path_count H ≡ path_count G
better_count {G} {H} W W' A b =
    let N = paths_numbered W' (looser_acyclic W W' A (better_looser b)) in
    count_unique W A (number_same (Complete G) (λ p c. complete_alike (alike_back (better_alike b)) c) (λ p c. complete_alike (better_alike b) c) N)
