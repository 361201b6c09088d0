-- Parallel vertices: the tests tell the relations; the path's kinds fall away, since parallel vertices have one kind; and the
-- vertices of a path are none of those beside it.
use mathlib.Core.Path.{◌≡◌, refl, sym, ◌∙◌}
use mathlib.Core.Logic.{◌⊎◌, inl, inr}
use mathlib.Core.Bool.{Bool, true, false, not, ◌&&◌, ◌||◌}
use mathlib.Core.List.{List, [], ◌∷◌}
use Prim.Native.Nat.{ℕ}
use lib.Dec.{eqb}
use borrow.Author.Tests.{eq-eqb, ne_eqb, eqb-true}
use Rattle.model.specs.Places.{Tells}
use Rattle.model.specs.Graph.{Graph, WellFormed}
use Rattle.model.specs.Cycle.{Walk, one, step, ancestor}
use Rattle.model.specs.Path.{ToSink, end, link}
use Rattle.model.specs.Second.{Parallel, parallel, ParallelTo, to_first, to_later, parallel_to}
use Rattle.model.proofs.Bools.{clash, not-true, true-not, not-is-true, both, left-of, right_of, or_left, or_right, or_cases}
use Rattle.model.proofs.Cycles.{ancestor_walk, walk_ancestor}

-- ---- the tests

module _ {G : Graph} where
  pub parallel-holds : {u v : ℕ} → Parallel G u v → parallel G u v ≡ true
  unfolding parallel
  parallel-holds {u} {v} h =
      both (eqb (G.kind u) (G.kind v) && not (eqb u v)) (not (ancestor G u v) && not (ancestor G v u))
      (both (eqb (G.kind u) (G.kind v)) (not (eqb u v)) (eq-eqb (G.kind u) (G.kind v) h.same_kind) (true-not (eqb u v) (ne_eqb u v h.differ)))
      (both (not (ancestor G u v)) (not (ancestor G v u))
      (true-not (ancestor G u v) (not-true (ancestor G u v) (λ t. h.not_before (ancestor_walk G u v t))))
      (true-not (ancestor G v u) (not-true (ancestor G v u) (λ t. h.not_after (ancestor_walk G v u t)))))

  pub is-parallel : WellFormed G → (u v : ℕ) → parallel G u v ≡ true → Parallel G u v
  unfolding parallel
  is-parallel W u v t =
      let a = left-of (eqb (G.kind u) (G.kind v) && not (eqb u v)) (not (ancestor G u v) && not (ancestor G v u)) t in
      let b = right_of (eqb (G.kind u) (G.kind v) && not (eqb u v)) (not (ancestor G u v) && not (ancestor G v u)) t in
      record {
        same_kind = eqb-true (G.kind u) (G.kind v) (left-of (eqb (G.kind u) (G.kind v)) _ a);
        differ = λ e. clash (eq-eqb u v e) (not-is-true (eqb u v) (right_of (eqb (G.kind u) (G.kind v)) _ a));
        not_before = λ x. clash (walk_ancestor W x) (not-is-true (ancestor G u v) (left-of (not (ancestor G u v)) _ b));
        not_after = λ x. clash (walk_ancestor W x) (not-is-true (ancestor G v u) (right_of (not (ancestor G u v)) _ b));
      }

  parallel-to-holds : {s v : ℕ} {p : List ℕ} → ParallelTo G s p v → parallel_to G s p v ≡ true
  unfolding parallel_to
  parallel-to-holds {s} {v} (to_first {u = u} {p = p} e h) =
      or_left (eqb (G.kind u) s && parallel G v u) (parallel_to G s p v) (both (eqb (G.kind u) s) (parallel G v u) (eq-eqb (G.kind u) s e) (parallel-holds h))
  parallel-to-holds {s} {v} (to_later {u = u} {p = p} h) = or_right (eqb (G.kind u) s && parallel G v u) (parallel_to G s p v) (parallel-to-holds h)

  is-parallel-to : WellFormed G → (s : ℕ) (p : List ℕ) (v : ℕ) → parallel_to G s p v ≡ true → ParallelTo G s p v
  unfolding parallel_to
  is-parallel-to W s [] v t = absurd (clash t refl)
  is-parallel-to W s (u ∷ p) v t = go (or_cases (eqb (G.kind u) s && parallel G v u) (parallel_to G s p v) t) (is-parallel-to W s p v)
    where
      go : (eqb (G.kind u) s && parallel G v u ≡ true) ⊎ (parallel_to G s p v ≡ true) → (parallel_to G s p v ≡ true → ParallelTo G s p v)
          → ParallelTo G s (u ∷ p) v
      go (inl x) ih = to_first (eqb-true (G.kind u) s (left-of (eqb (G.kind u) s) _ x)) (is-parallel W v u (right_of (eqb (G.kind u) s) _ x))
      go (inr x) ih = to_later (ih x)

-- THEOREM. The tests hold exactly where the relations do.
pub parallel-tells : {G : Graph} → WellFormed G → (u : ℕ) → Tells G.n (Parallel G u) (parallel G u)
parallel-tells W u = record { sound = λ v l t. is-parallel W u v t; complete = λ v l h. parallel-holds h }

pub parallel-to-tells : {G : Graph} → WellFormed G → (s : ℕ) (p : List ℕ) → Tells G.n (ParallelTo G s p) (parallel_to G s p)
parallel-to-tells W s p = record { sound = λ v l t. is-parallel-to W s p v t; complete = λ v l h. parallel-to-holds h }

-- ---- beside a path, whatever the kind

-- v is parallel to some vertex of p
unfoldable pub near : Graph → List ℕ → ℕ → Bool
near G [] v = false
near G (u ∷ p) v = parallel G v u || near G p v

-- what is parallel to a path vertex of kind s is of kind s
pub parallel-to_near : {G : Graph} → WellFormed G → (s : ℕ) (p : List ℕ) (v : ℕ) → parallel_to G s p v ≡ eqb (G.kind v) s && near G p v
unfolding parallel_to near
parallel-to_near {G} W s [] v = none (eqb (G.kind v) s)
  where
    none : (b : Bool) → false ≡ b && false
    none true = refl
    none false = refl
parallel-to_near {G} W s (u ∷ p) v = rw (parallel-to_near W s p v) (go (parallel G v u) (is-parallel W v u))
  where
    merge : (b n : Bool) → (b && true) || (b && n) ≡ b && true
    merge true n = refl
    merge false n = refl

    drop : (a b : Bool) → (a && false) || b ≡ b
    drop true b = refl
    drop false b = refl

    go : (x : Bool) → (x ≡ true → Parallel G v u)
        → (eqb (G.kind u) s && x) || (eqb (G.kind v) s && near G p v) ≡ eqb (G.kind v) s && (x || near G p v)
    go true h = rw (h refl).same_kind (merge (eqb (G.kind u) s) (near G p v))
    go false h = drop (eqb (G.kind u) s) (eqb (G.kind v) s && near G p v)

-- ---- on a path

-- v is a vertex of p
unfoldable pub on : List ℕ → ℕ → Bool
on [] v = false
on (u ∷ p) v = eqb u v || on p v

on_cases : (u : ℕ) (p : List ℕ) (v : ℕ) → on (u ∷ p) v ≡ true → (u ≡ v) ⊎ (on p v ≡ true)
unfolding on
on_cases u p v t = go (or_cases (eqb u v) (on p v) t)
  where
    go : (eqb u v ≡ true) ⊎ (on p v ≡ true) → (u ≡ v) ⊎ (on p v ≡ true)
    go (inl x) = inl (eqb-true u v x)
    go (inr x) = inr x

-- a path's first vertex is an ancestor of all the others
pub first-before : {G : Graph} {u v : ℕ} {p : List ℕ} → ToSink G (u ∷ p) → on p v ≡ true → Walk G u v
unfolding on
first-before (end l s) t = absurd (clash t refl)
first-before {G} {u} {v} (link {v = w} {p = p} e c) t = go (on_cases w p v t) (λ x. first-before c x)
  where
    go : (w ≡ v) ⊎ (on p v ≡ true) → (on p v ≡ true → Walk G w v) → Walk G u v
    go (inl q) ih = one (rw q at e)
    go (inr x) ih = step e (ih x)

-- two vertices of one path are not parallel
on-not-parallel : {G : Graph} {p : List ℕ} → ToSink G p → (v x : ℕ) → on p v ≡ true → on p x ≡ true → Parallel G v x → ⊥
unfolding on
on-not-parallel {G} (end {v = w} l s) v x a b h = go (on_cases w [] v a) (on_cases w [] x b)
  where
    go : (w ≡ v) ⊎ (on [] v ≡ true) → (w ≡ x) ⊎ (on [] x ≡ true) → ⊥
    go (inl e) (inl f) = h.differ (sym e ∙ f)
    go (inl e) (inr f) = clash f refl
    go (inr e) f = clash e refl
on-not-parallel {G} (link {u = u} {v = w} {p = p} e c) v x a b h = go (on_cases u (w ∷ p) v a) (on_cases u (w ∷ p) x b) (λ m n. on-not-parallel c v x m n h)
  where
    go : (u ≡ v) ⊎ (on (w ∷ p) v ≡ true) → (u ≡ x) ⊎ (on (w ∷ p) x ≡ true) → (on (w ∷ p) v ≡ true → on (w ∷ p) x ≡ true → ⊥) → ⊥
    go (inl m) (inl n) ih = h.differ (sym m ∙ n)
    go (inl m) (inr n) ih = h.not_before (rw m at (first-before {u = u} (link e c) n))
    go (inr m) (inl n) ih = h.not_after (rw n at (first-before {u = u} (link e c) m))
    go (inr m) (inr n) ih = ih m n

near_some : {G : Graph} → WellFormed G → (p : List ℕ) (v : ℕ) → near G p v ≡ true → (x : ℕ) × (on p x ≡ true) × Parallel G v x
unfolding near on
near_some W [] v t = absurd (clash t refl)
near_some {G} W (u ∷ p) v t = go (or_cases (parallel G v u) (near G p v) t) (λ y. near_some W p v y)
  where
    go : (parallel G v u ≡ true) ⊎ (near G p v ≡ true) → (near G p v ≡ true → (x : ℕ) × (on p x ≡ true) × Parallel G v x)
        → (x : ℕ) × (on (u ∷ p) x ≡ true) × Parallel G v x
    go (inl y) ih = (u, or_left (eqb u u) (on p u) (eq-eqb u u refl), is-parallel W v u y)
    go (inr y) ih = let r = ih y in (r.0, or_right (eqb u r.0) (on p r.0) r.1, r.2)

-- no vertex of a path is beside it
pub near_off : {G : Graph} {p : List ℕ} → WellFormed G → ToSink G p → (v : ℕ) → near G p v ≡ true → on p v ≡ false
near_off {p = p} W c v t = not-true (on p v) (λ a. let r = near_some W p v t in on-not-parallel c v r.0 a r.1 r.2)
