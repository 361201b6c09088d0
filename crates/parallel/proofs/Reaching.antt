-- Why one pass along the order, from its last vertex to its first, finds the descendants. The successors of a vertex stand at later places, where
-- the rows are done, and no later store changes them.
use mathlib.Core.Path.{◌≡◌, refl, sym, ap, ap₂, ◌∙◌}
use mathlib.Core.Logic.{◌⊎◌, inl, inr}
use mathlib.Core.Bool.{Bool, true, false, ◌&&◌, ◌||◌}
use mathlib.Core.List.{List, []}
use Prim.Native.Nat.{ℕ, ◌+◌, ◌≤◌, ◌<◌}
use native.Mathlib.Omega.{arith}
use native.Mathlib.Decide.{ℕ_discrete}
use lib.Dec.{eqb, ltb}
use lib.ListN.{get_or, set}
use borrow.Author.Tests.{eq-eqb, eqb-true, lt-ltb, le-ltb}
use Rattle.model.specs.Places.{any}
use Rattle.model.specs.Graph.{Edge}
use Rattle.model.specs.Cycle.{Walk, one, step, ancestor}
use Rattle.model.proofs.Bools.{or_left, or_right, or_cases, same_test, le-or-lt}
use Rattle.model.proofs.Places.{any-more, any_intro, any_elim}
use Rattle.model.proofs.Cycles.{ancestor_walk, walk_ancestor}
use Rattle.graph.specs.Model.{as_model}
use Rattle.graph.specs.declared.Graph.{Graph}
use Rattle.paths.specs.Ahead.{Weighed}
use Rattle.vset.specs.declared.Vset.{Vset}
use Rattle.vset.specs.Members.{is_in, Members}
use Rattle.vset.proofs.Gather.{members_ext}
use Rattle.summary.specs.Row.{many, nth}
use Rattle.summary.proofs.Along.{well_formed, few, vertex, place, place-below, place_at, vertex-at, nth-joins, nth_of, rises}
use Rattle.sets.specs.Sets.{row_of, words_of, empty, Table, Holds}
use Rattle.sets.proofs.Tables.{put-table, in_same, in_other, empty-table, empty_in}
use Rattle.parallel.specs.Rows.{below, reached_by}

-- one edge more, to x: s is x and its row
pub reached-more : (e st : List ℕ) (t : List (List ℕ)) (u k x : ℕ) (got s r : Vset) → x ≡ nth e st u k → Members got (reached_by e st t u k)
    → Members s (λ w. is_in (row_of t x) w || eqb w x) → Members r (λ w. is_in got w || is_in s w) → Members r (reached_by e st t u (k + 1))
reached-more e st t u k x got s r is G S R =
    members_ext r _ _ R
    (λ w. ap₂ ◌||◌ (G.are w) (S.are w ∙ ap (λ (y : ℕ). is_in (row_of t y) w || eqb w y) is) ∙ sym (any-more (λ j. is_in (row_of t (nth e st u j)) w || eqb w (nth e st u j)) k))

module _ {g : Graph} {e st o : List ℕ} {n : ℕ} (T : Weighed g e st o n []) where
  pub record Reaching (t : List (List ℕ)) (j : ℕ) : Type 0 where
    pub table : Table t
    pub sound : (v w : ℕ) → v < g.n → j ≤ place T v → is_in (row_of t v) w ≡ true → Walk (as_model g) v w
    pub complete : (v w : ℕ) → v < g.n → j ≤ place T v → Walk (as_model g) v w → is_in (row_of t v) w ≡ true
    pub past : (v w : ℕ) → g.n ≤ v → v < 128 → is_in (row_of t v) w ≡ false

  pub reaching_none : Reaching empty n
  reaching_none = record {
    table = empty-table;
    sound = λ v w l h x. absurd (omega (arith, place-below T v l));
    complete = λ v w l h x. absurd (omega (arith, place-below T v l));
    past = λ v w l h. empty_in v w h;
  }

  module _ (t : List (List ℕ)) (j k : ℕ) (next : j ≡ k + 1) (l : j ≤ n) (R : Reaching t j) (s : Vset) (S : Members s (reached_by e st t (get_or o k 0) (many st (get_or o k 0)))) where
    abbrev u : ℕ
    u = get_or o k 0

    known : u < g.n
    known = vertex T k (omega arith)

    small : u < 128
    small = omega (arith, known, few T)

    later : (v : ℕ) → Edge (as_model g) u v → j ≤ place T v
    later v d = omega (arith, rises T u v d, place_at T k (omega arith))

    by : ℕ → ℕ → Bool
    by w i = is_in (row_of t (nth e st u i)) w || eqb w (nth e st u i)

    own-sound : (w : ℕ) → is_in s w ≡ true → Walk (as_model g) u w
    unfolding by as_model
    own-sound w x =
        let r = any_elim (by w) (many st u) (sym (S.are w) ∙ x) in
        let d = nth-joins T u r.0 known r.1 in
        go r.0 d (or_cases (is_in (row_of t (nth e st u r.0)) w) (eqb w (nth e st u r.0)) r.2)
      where
        go : (i : ℕ) → Edge (as_model g) u (nth e st u i) → (is_in (row_of t (nth e st u i)) w ≡ true) ⊎ (eqb w (nth e st u i) ≡ true)
            → Walk (as_model g) u w
        go i d (inl a) = step d (R.sound (nth e st u i) w ((well_formed T).to u (nth e st u i) d) (later (nth e st u i) d) a)
        go i d (inr a) = rw (eqb-true w (nth e st u i) a) (one d)

    own-complete : (w : ℕ) → Walk (as_model g) u w → is_in s w ≡ true
    unfolding by as_model
    own-complete w x = S.are w ∙ go x
      where
        over : (v : ℕ) → Edge (as_model g) u v → is_in (row_of t v) w || eqb w v ≡ true → any (by w) (many st u) ≡ true
        over v d h = let r = nth_of T u v d in any_intro (by w) (many st u) r.0 r.1 (rw r.2 h)

        go : Walk (as_model g) u w → any (by w) (many st u) ≡ true
        go (one d) = over w d (or_right (is_in (row_of t w) w) (eqb w w) (eq-eqb w w refl))
        go (step {v = v} d y) = over v d (or_left (is_in (row_of t v) w) (eqb w v) (R.complete v w ((well_formed T).to u v d) (later v d) y))

    pub reaching_more : Reaching (set t u (words_of s)) k
    reaching_more = record {
      table = put-table t u s R.table small S;
      sound = λ v w m h. sound v w m h (ℕ_discrete v u);
      complete = λ v w m h. complete v w m h (ℕ_discrete v u);
      past = λ v w m h. in_other t u s R.table small v w (λ q. omega (arith, known)) ∙ R.past v w m h;
    }
      where
        done : (v : ℕ) → v < g.n → k ≤ place T v → (v ≡ u → ⊥) → j ≤ place T v
        done v m h d = go (ℕ_discrete (place T v) k)
          where
            go : Dec (place T v ≡ k) → j ≤ place T v
            go (yes z) = absurd (d (sym (vertex-at T v m) ∙ ap (λ (i : ℕ). get_or o i 0) z))
            go (no z) = omega arith

        sound : (v w : ℕ) → v < g.n → k ≤ place T v → Dec (v ≡ u) → is_in (row_of (set t u (words_of s)) v) w ≡ true → Walk (as_model g) v w
        sound v w m h (yes q) x = rw q (own-sound w (sym (in_same t u s R.table small w) ∙ rw q at x))
        sound v w m h (no q) x = R.sound v w m (done v m h q) (sym (in_other t u s R.table small v w q) ∙ x)

        complete : (v w : ℕ) → v < g.n → k ≤ place T v → Dec (v ≡ u) → Walk (as_model g) v w → is_in (row_of (set t u (words_of s)) v) w ≡ true
        complete v w m h (yes q) x = rw q (in_same t u s R.table small w ∙ own-complete w (rw q at x))
        complete v w m h (no q) x = in_other t u s R.table small v w q ∙ R.complete v w m (done v m h q) x

  -- THEOREM. After the whole order the rows are the descendants.
  pub reaching_done : (t : List (List ℕ)) → Reaching t 0 → Holds t (below (as_model g))
  unfolding below as_model
  reaching_done t R = record { table = R.table; row = λ v w l. go v w l (le-or-lt g.n v) }
    where
      go : (v w : ℕ) → v < 128 → (g.n ≤ v) ⊎ (v < g.n) → is_in (row_of t v) w ≡ ltb v g.n && ancestor (as_model g) v w
      go v w l (inl h) = rw (le-ltb v g.n h) (R.past v w h l)
      go v w l (inr h) =
          rw (lt-ltb v g.n h)
          (same_test (is_in (row_of t v) w) (ancestor (as_model g) v w) (λ x. walk_ancestor (well_formed T) (R.sound v w h (omega arith) x))
          (λ x. R.complete v w h (omega arith) (ancestor_walk (as_model g) v w x)))
