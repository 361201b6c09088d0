-- Ready and finished, read from two sets: the vertices with ticks left, and those that stand behind one of them.
use mathlib.Core.Path.{◌≡◌, ap, ◌∙◌}
use mathlib.Core.Logic.{◌⊎◌, inl, inr, ⊎_elim}
use mathlib.Core.Bool.{Bool, true, false, not, ◌&&◌}
use Prim.Native.Nat.{ℕ, ◌≤◌, ◌<◌, zero-le}
use native.Mathlib.Omega.{arith}
use lib.Dec.{ltb}
use borrow.Author.Tests.{lt-ltb, le-ltb, ltb-true}
use Rattle.model.specs.Places.{any, every}
use Rattle.model.specs.Graph.{Graph, Edge, WellFormed}
use Rattle.model.specs.Cycle.{Walk, one, Acyclic}
use Rattle.model.specs.Schedule.{Ready}
use Rattle.model.specs.ListSchedule.{finished, ready}
use Rattle.model.proofs.Bools.{clash, le-or-lt, not-true, true-not, not-is-true, both, left-of, right_of, same_test}
use Rattle.model.proofs.Places.{any_none, any_false, every-at, every_intro}
use Rattle.model.proofs.Cycles.{ranked, walk_join, walk_from}
use Rattle.model.proofs.Finished.{fin_left, fin_ancestor, ancestor_fin, ready-left, left-ready}
use Rattle.model.proofs.Tests.{finished-tells, ready-tells}
use Rattle.ready.specs.Ready.{is_behind}
use Rattle.ready.proofs.Ancestors.{last-edge, behind_walk, walk_behind}

module _ {G : Graph} (W : WellFormed G) (A : Acyclic G) (c : ℕ → ℕ) where
  abbrev busy : ℕ → Bool
  busy u = ltb 0 (c u)

  -- the ancestors of a ready vertex have nothing left
  above : {u v : ℕ} → Ready G c v → Walk G u v → c u ≡ 0
  above {u} {v} r x = go (last-edge x)
    where
      go : (w : ℕ) × Edge G w v × ((u ≡ w) ⊎ Walk G u w) → c u ≡ 0
      go (w, e, inl q) = rw q (fin_left (r.before w e))
      go (w, e, inr y) = fin_ancestor y (r.before w e)

  -- nor have those of a vertex that is not behind
  clear : (u v : ℕ) → v < G.n → is_behind G busy v ≡ false → Walk G u v → c u ≡ 0
  clear u v l f x =
      ⊎_elim
      (λ (h : c u ≤ 0). omega arith)
      (λ (h : 0 < c u). absurd (clash (walk_behind busy W A u v l (lt-ltb 0 (c u) h) x) f))
      (le-or-lt (c u) 0)

  not_behind : (v : ℕ) → ((u : ℕ) → Walk G u v → c u ≡ 0) → not (is_behind G busy v) ≡ true
  not_behind v h =
      true-not (is_behind G busy v) (not-true (is_behind G busy v) (λ t.
      let w = behind_walk busy v t in
      omega (arith, h w.0 w.2, ltb-true 0 (c w.0) w.1)))

  none_left : (v : ℕ) → c v ≡ 0 → not (busy v) ≡ true
  none_left v z = true-not (busy v) (ap (ltb 0) z ∙ le-ltb 0 0 zero-le)

  left-none : (v : ℕ) → not (busy v) ≡ true → c v ≡ 0
  left-none v t =
      ⊎_elim (λ (h : c v ≤ 0). omega arith) (λ (h : 0 < c v). absurd (clash (lt-ltb 0 (c v) h) (not-is-true (busy v) t))) (le-or-lt (c v) 0)

  pub ready-is : (v : ℕ) → v < G.n → ready G c v ≡ busy v && not (is_behind G busy v)
  ready-is v l = same_test (ready G c v) (busy v && not (is_behind G busy v)) to from
    where
      to : ready G c v ≡ true → busy v && not (is_behind G busy v) ≡ true
      to t =
          let r = (ready-tells W c A).sound v l t in
          both (busy v) (not (is_behind G busy v)) (lt-ltb 0 (c v) (ready-left r)) (not_behind v (λ u x. above r x))

      from : busy v && not (is_behind G busy v) ≡ true → ready G c v ≡ true
      from t =
          let f = not-is-true (is_behind G busy v) (right_of (busy v) (not (is_behind G busy v)) t) in
          (ready-tells W c A).complete v l (left-ready (ltb-true 0 (c v) (left-of (busy v) (not (is_behind G busy v)) t))
          (λ u e. ancestor_fin W c (ranked W A) u (clear u v l f (one e)) (λ w x. clear w v l f (walk_join x (one e)))))

  pub finished-is : (v : ℕ) → v < G.n → finished G c v ≡ not (busy v) && not (is_behind G busy v)
  finished-is v l = same_test (finished G c v) (not (busy v) && not (is_behind G busy v)) to from
    where
      to : finished G c v ≡ true → not (busy v) && not (is_behind G busy v) ≡ true
      to t =
          let f = (finished-tells W c A).sound v l t in
          both (not (busy v)) (not (is_behind G busy v)) (none_left v (fin_left f)) (not_behind v (λ u x. fin_ancestor x f))

      from : not (busy v) && not (is_behind G busy v) ≡ true → finished G c v ≡ true
      from t =
          let f = not-is-true (is_behind G busy v) (right_of (not (busy v)) (not (is_behind G busy v)) t) in
          (finished-tells W c A).complete v l (ancestor_fin W c (ranked W A) v (left-none v (left-of (not (busy v)) (not (is_behind G busy v)) t)) (λ u x. clear u v l f x))

  -- all are finished just where nothing is left
  pub all_finished : (m : ℕ) → G.n ≤ m → ((v : ℕ) → G.n ≤ v → c v ≡ 0) → every (finished G c) G.n ≡ not (any busy m)
  all_finished m h past = same_test (every (finished G c) G.n) (not (any busy m)) to from
    where
      to : every (finished G c) G.n ≡ true → not (any busy m) ≡ true
      to t =
          true-not (any busy m) (any_none busy m (λ v l. not-is-true (busy v) (none_left v
          (⊎_elim (λ (k : G.n ≤ v). past v k) (λ (k : v < G.n). fin_left ((finished-tells W c A).sound v k (every-at (finished G c) G.n t v k))) (le-or-lt G.n v)))))

      zero : not (any busy m) ≡ true → (v : ℕ) → v < G.n → c v ≡ 0
      zero t v l = left-none v (true-not (busy v) (any_false busy m v (omega arith) (not-is-true (any busy m) t)))

      from : not (any busy m) ≡ true → every (finished G c) G.n ≡ true
      from t =
          every_intro (finished G c) G.n (λ v l.
          (finished-tells W c A).complete v l (ancestor_fin W c (ranked W A) v (zero t v l) (λ u x. zero t u (walk_from W x))))
