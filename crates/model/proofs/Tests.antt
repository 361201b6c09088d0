-- The tests `finished` and `ready` tell which vertices are finished and ready, in every graph without a cycle.
use mathlib.Core.Path.{◌≡◌, refl}
use mathlib.Core.Bool.{Bool, true, not, ◌||◌}
use Prim.Native.Nat.{ℕ, zero, suc, ◌<◌}
use native.Mathlib.Omega.{arith}
use lib.Dec.{eqb}
use borrow.Author.Tests.{eq-eqb, eqb-true}
use Rattle.model.specs.Places.{every, Tells}
use Rattle.model.specs.Graph.{Graph, WellFormed}
use Rattle.model.specs.Cycle.{Acyclic, Ranked}
use Rattle.model.specs.Schedule.{Finished, done, Ready}
use Rattle.model.specs.ListSchedule.{finished_within, finished, ready}
use Rattle.model.proofs.Bools.{clash, not-true, true-not, not-is-true, both, left-of, right_of, imp, imp_intro, same_test}
use Rattle.model.proofs.Places.{every-at, every_intro, every_ext}
use Rattle.model.proofs.Cycles.{ranked, rank_below}
use Rattle.model.proofs.Finished.{fin_left, fin_before}

module _ {G : Graph} (W : WellFormed G) (c : ℕ → ℕ) where
  fin-sound : (k v : ℕ) → finished_within G c k v ≡ true → Finished G c v
  unfolding finished_within
  fin-sound zero v t = absurd (clash t refl)
  fin-sound (suc k) v t = done (eqb-true (c v) 0 (left-of (eqb (c v) 0) _ t))
      (λ u e. fin-sound k u (imp (G.edge u v) (finished_within G c k u)
      (every-at (λ u. not (G.edge u v) || finished_within G c k u) G.n (right_of (eqb (c v) 0) _ t) u (W.from u v e)) e))

  fin-complete : (R : Ranked G) (k v : ℕ) → R.rank v < k → Finished G c v → finished_within G c k v ≡ true
  unfolding finished_within
  fin-complete R zero v l f = absurd (omega arith)
  fin-complete R (suc k) v l f = both (eqb (c v) 0) (every (λ u. not (G.edge u v) || finished_within G c k u) G.n) (eq-eqb (c v) 0 (fin_left f))
      (every_intro (λ u. not (G.edge u v) || finished_within G c k u) G.n
      (λ u m. imp_intro (G.edge u v) (finished_within G c k u) (λ e. fin-complete R k u (omega (arith, R.up u v e)) (fin_before f u e))))

  module _ (A : Acyclic G) where
    pub finished-tells : Tells G.n (Finished G c) (finished G c)
    unfolding finished
    finished-tells = record {
      sound = λ v l t. fin-sound G.n v t;
      complete = λ v l f. fin-complete (ranked W A) G.n v (rank_below W A v l) f;
    }

    pub ready-tells : Tells G.n (Ready G c) (ready G c)
    unfolding ready
    ready-tells = record {
      sound = λ v l t. record {
        unfinished = λ f. clash (finished-tells.complete v l f) (not-is-true (finished G c v) (left-of (not (finished G c v)) _ t));
        before = λ u e. finished-tells.sound u (W.from u v e) (imp (G.edge u v) (finished G c u)
            (every-at (λ u. not (G.edge u v) || finished G c u) G.n (right_of (not (finished G c v)) _ t) u (W.from u v e)) e);
      };
      complete = λ v l r. both (not (finished G c v)) (every (λ u. not (G.edge u v) || finished G c u) G.n)
          (true-not (finished G c v) (not-true (finished G c v) (λ t. r.unfinished (finished-tells.sound v l t))))
          (every_intro (λ u. not (G.edge u v) || finished G c u) G.n
          (λ u m. imp_intro (G.edge u v) (finished G c u) (λ e. finished-tells.complete u m (r.before u e))));
    }

-- two tests that tell the same are equal
pub tells-same : {n : ℕ} {A : ℕ → Type 0} {p q : ℕ → Bool} → Tells n A p → Tells n A q → (v : ℕ) → v < n → p v ≡ q v
tells-same {p = p} {q = q} a b v l =
    same_test (p v) (q v) (λ t. b.complete v l (a.sound v l t)) (λ t. a.complete v l (b.sound v l t))

-- both tests look only at which vertices have nothing left
module _ (G : Graph) (c d : ℕ → ℕ) (zeros : (v : ℕ) → eqb (c v) 0 ≡ eqb (d v) 0) where
  within-zeros : (k v : ℕ) → finished_within G c k v ≡ finished_within G d k v
  unfolding finished_within
  within-zeros zero v = refl
  within-zeros (suc k) v =
      rw (zeros v, every_ext (λ u. not (G.edge u v) || finished_within G c k u) (λ u. not (G.edge u v) || finished_within G d k u) G.n (λ u l. rw (within-zeros k u) refl)) refl

  pub finished-zeros : (v : ℕ) → finished G c v ≡ finished G d v
  unfolding finished
  finished-zeros v = within-zeros G.n v

  pub ready-zeros : (v : ℕ) → ready G c v ≡ ready G d v
  unfolding ready
  ready-zeros v =
      rw (finished-zeros v, every_ext (λ u. not (G.edge u v) || finished G c u) (λ u. not (G.edge u v) || finished G d u) G.n (λ u l. rw (finished-zeros u) refl)) refl
