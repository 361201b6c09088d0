-- The finish instants, one member of a set after another: those that are no longer in the rest are stamped.
use mathlib.Core.Path.{◌≡◌, refl, ap, ◌∙◌}
use mathlib.Core.Logic.{◌⊎◌, inl, inr}
use mathlib.Core.List.{List}
use mathlib.Core.Bool.{Bool, true, false, not, ◌&&◌, ◌||◌, or-true, or-false}
use Prim.Native.Nat.{ℕ, ◌<◌}
use native.Mathlib.Omega.{arith}
use lib.Dec.{eqb}
use lib.ListN.{get_or, set, length, length-set}
use Rattle.model.specs.Places.{pick}
use Rattle.model.proofs.Bools.{cases}
use Rattle.vset.proofs.Taking.{still_in, taken_more, none-taken, all-taken}
use Rattle.model.proofs.Turns.{put-at}
use Rattle.leaps.specs.Leaps.{stamped, Stamped}

pub record Stamping (old : List ℕ) (on : ℕ → Bool) (t : ℕ) (new : List ℕ) (rest : ℕ → Bool) : Type 0 where
  pub inside : (v : ℕ) → rest v ≡ true → on v ≡ true
  pub so_far : Stamped old (λ v. on v && not (rest v)) t new

module _ (old : List ℕ) (on : ℕ → Bool) (x : ℕ) where
  pub stamping_none : length old ≡ 128 → Stamping old on x old on
  unfolding stamped
  stamping_none long = record { inside = λ v h. h; so_far = record { long = long; at = λ v h. rw (none-taken on v) refl } }

  pub stamping_more : (new : List ℕ) (rest : ℕ → Bool) (t : ℕ) → Stamping old on x new rest → t < 128 → rest t ≡ true → (next : ℕ → Bool) → ((k : ℕ) → next k ≡ rest k && not (eqb k t))
      → Stamping old on x (set new t x) next
  unfolding stamped
  stamping_more new rest t s l here next is-next = record {
    inside = λ v h. s.inside v (still_in rest next t is-next here v h);
    so_far = record { long = length-set new t x ∙ s.so_far.long; at = λ v h. put-at new t x v (omega (arith, s.so_far.long)) ∙ go v h (cases (eqb v t)) };
  }
    where
      taken : (v : ℕ) → on v && not (next v) ≡ (on v && not (rest v)) || eqb v t
      taken = taken_more rest next t is-next here on (s.inside t here)

      go : (v : ℕ) → v < 128 → (eqb v t ≡ true) ⊎ (eqb v t ≡ false) → pick (eqb v t) x (get_or new v 0) ≡ pick (on v && not (next v)) x (get_or old v 0)
      go v h (inl q) = rw (taken v, q, or-true (on v && not (rest v))) refl
      go v h (inr q) = rw (taken v, q, or-false (on v && not (rest v))) (s.so_far.at v h)

  pub stamping_all : (new : List ℕ) (rest : ℕ → Bool) → Stamping old on x new rest → ((v : ℕ) → rest v ≡ false) → Stamped old on x new
  unfolding stamped
  stamping_all new rest s none = record { long = s.so_far.long; at = λ v h. s.so_far.at v h ∙ ap (λ (b : Bool). pick b x (get_or old v 0)) (all-taken on rest none v) }
