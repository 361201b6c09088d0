-- Schedules that give the graph's vertices the same times and run the same of them in each tick: what is left, who is finished, who is ready and
-- whether they are work conserving are the same. Each law goes one way; `same_back` gives the other.
use mathlib.Core.Path.{◌≡◌, refl, ap, sym, ◌∙◌}
use mathlib.Core.Bool.{Bool, ◌&&◌}
use Prim.Native.Nat.{ℕ, zero, suc, ◌<◌}
use native.Mathlib.Omega.{arith}
use lib.Dec.{eqb}
use Rattle.model.specs.Graph.{Graph, WellFormed}
use Rattle.model.specs.Schedule.{Schedule, left, Finished, done, Ready, WorkConserving}
use Rattle.model.specs.Placing.{Same}
use Rattle.model.proofs.Places.{count_ext}

pub same_back : {G : Graph} {S R : Schedule} → Same G S R → Same G R S
same_back E = record { time = λ v l. sym (E.time v l); runs = λ t v l. sym (E.runs t v l) }

-- who is finished depends on what is left of the graph's vertices alone
module _ {G : Graph} (W : WellFormed G) {c d : ℕ → ℕ} (e : (u : ℕ) → u < G.n → c u ≡ d u) where
  finished-alike : {v : ℕ} → v < G.n → Finished G c v → Finished G d v
  finished-alike {v} l (done h f) = done {v = v} (omega (arith, e v l)) (λ u x. finished-alike (W.from u v x) (f u x))

pub left-same : {G : Graph} {S R : Schedule} → Same G S R → (t v : ℕ) → v < G.n → left S t v ≡ left R t v
unfolding left
left-same E zero v l = E.time v l
left-same E (suc t) v l = rw (left-same E t v l, E.runs t v l) refl

module _ {G : Graph} (W : WellFormed G) {S R : Schedule} (E : Same G S R) where
  pub finished-same : (t v : ℕ) → v < G.n → Finished G (left S t) v → Finished G (left R t) v
  finished-same t v l f = finished-alike W (left-same E t) l f

  finished-back : (t v : ℕ) → v < G.n → Finished G (left R t) v → Finished G (left S t) v
  finished-back t v l f = finished-alike W (left-same (same_back E) t) l f

  pub ready-same : (t v : ℕ) → v < G.n → Ready G (left S t) v → Ready G (left R t) v
  ready-same t v l r = record {
    unfinished = λ f. r.unfinished (finished-back t v l f);
    before = λ u e. finished-same t u (W.from u v e) (r.before u e);
  }

module _ {G : Graph} (W : WellFormed G) {S R : Schedule} (E : Same G S R) where
  pub works_same : WorkConserving G S → WorkConserving G R
  works_same C = record {
    runs_ready = λ t v l x. ready-same W E t v l (C.runs_ready t v l (E.runs t v l ∙ x));
    busy = λ t s l ready T.
        count_ext _ _ G.n (λ v m. ap (λ (b : Bool). b && eqb (G.kind v) s) (sym (E.runs t v m)))
        ∙ C.busy t s l ready (record {
          sound = λ v m x. ready-same W (same_back E) t v m (T.sound v m x);
          complete = λ v m r. T.complete v m (ready-same W E t v m r);
        });
  }
